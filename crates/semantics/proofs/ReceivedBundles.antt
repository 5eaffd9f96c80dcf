-- A client that receives a bundle without a stop has submitted all of it.
use Rattle.std.proofs.Common.{◌≡◌, ℕ, suc, ◌+◌, cond, ◌==◌, List, length, Option, Some, None, refl, sym, ap}
use Rattle.std.proofs.Common.{◌∙◌, arith, slice_get}
use Rattle.semantics.specs.Stamped.{Stamped}
use Rattle.semantics.specs.Engine.{Engine, Client, Bundle, Received}
use Rattle.semantics.specs.PeerSteps.{Receipt, submit_all, receive_message}
use Rattle.semantics.proofs.WholeSubmissions.{IsWhole, submitted_whole}

-- G is E after client c received the bundle without a stop
pub record HasReceivedAll (E : Engine) (c : ℕ) (ss : List Stamped) (serial count : ℕ) (G : Engine) : Type 0 where
  pub client : Client
  pub is_client : slice_get E.clients c ≡ Some client
  pub first : serial ≡ cond (count == 0) 0 (suc (length client.cells))
  pub all : count ≡ length ss
  pub receipt : Receipt
  pub engine : receipt.engine ≡ G
  pub whole : IsWhole E c client None 0 ss receipt

-- Where a receipt ends without a stop, its client is there, and each operation of the bundle was submitted. The reply is computed from the
-- receipt, so its three parts are those of the receipt.
pub bundle_received : (E : Engine) (c : ℕ) (ss : List Stamped) (serial count : ℕ)
    → (receive_message E c (Some (Bundle ss))).reply ≡ Received serial count None
    → HasReceivedAll E c ss serial count (receive_message E c (Some (Bundle ss))).engine
bundle_received E c ss serial count h = at_client (slice_get E.clients c) refl
  where
    at_client : (o : Option Client) → slice_get E.clients c ≡ o
        → HasReceivedAll E c ss serial count (receive_message E c (Some (Bundle ss))).engine
    at_client None e = (let z = rw e at h in cc)
    at_client (Some k) e =
        let r : Receipt = submit_all c None 0 E ss in
        let reply : Received (cond (r.submitted == 0) 0 (suc (length k.cells))) r.submitted r.stopped
        ≡ Received serial count None = rw e at h in
        let stopped : r.stopped ≡ None = cc in
        let submitted : r.submitted ≡ count = cc in
        let start : cond (r.submitted == 0) 0 (suc (length k.cells)) ≡ serial = cc in
        let whole : IsWhole E c k None 0 ss r = submitted_whole c None 0 E k ss e stopped in
        rw e (record {
          client = k;
          is_client = e;
          first = sym start ∙ ap (λ n. cond (n == 0) 0 (suc (length k.cells))) submitted;
          all = sym submitted ∙ whole.submitted ∙ (let l : 0 + length ss ≡ length ss = omega arith in l);
          receipt = r;
          engine = refl;
          whole = whole;
        })
