-- A client that isn't stopped has submitted all operations, in order, under its next serials.
use Rattle.std.proofs.Common.{◌≡◌, ◌⊎◌, inl, inr, ℕ, suc, ◌+◌, ◌≤◌, Bool, true, false, cond, ◌==◌, nat_le, nat_lt, List, [], ◌∷◌, ◌++◌, map}
use Rattle.std.proofs.Common.{length, length-append, Option, Some, None, refl, sym, ap, ◌∙◌, subst, arith, append_assoc, slice_get}
use Rattle.std.proofs.lemmas.Bool.{and_from, eq-eqb, le-leb, lt-ltb}
use Rattle.std.proofs.lemmas.List.{append-nil}
use Rattle.ids.specs.declared.refusal.Refusal.{Refusal}
use Rattle.semantics.specs.Stamped.{Stamped}
use Rattle.semantics.specs.LegalAnswer.{Request, OfPeer, Submitted}
use Rattle.semantics.specs.Engine.{Engine, Client, Outcome}
use Rattle.semantics.specs.WriteSteps.{next_submission, with_cell, submit, push}
use Rattle.semantics.specs.PeerSteps.{Receipt, refusal_in, unless_refused, submit_all}
use Rattle.semantics.proofs.SetElements.{get-set_same}
use Rattle.semantics.proofs.MovedTokens.{with_client}
use Rattle.semantics.proofs.ComingItems.{is_of_receipt, awaited}

-- the engine after the client submitted a peer's operation
abbrev pub with_item : Engine → ℕ → Client → Stamped → Engine
with_item E c k s = with_client E (E.queue ++ next_submission c k (OfPeer s) ∷ []) E.due c (with_cell k (next_submission c k (OfPeer s)))

abbrev pub IsPushed : Engine → ℕ → Client → Stamped → Outcome → Type 0
IsPushed E c k s t = ((why : Refusal) × (refusal_in t.reply ≡ Some why)) ⊎ ((t.engine ≡ with_item E c k s) × (refusal_in t.reply ≡ None))

-- a push is refused, or the item stands in the queue
pub pushed_cases : (E : Engine) (c : ℕ) (k : Client) (s : Stamped) → slice_get E.clients c ≡ Some k → IsPushed E c k s (push E c (OfPeer s))
pushed_cases E c k s h = rw h (at_room (nat_le E.serials (length k.cells)) (nat_le E.capacity (length E.queue)) refl refl)
  where
    at_room : (a b : Bool) → nat_le E.serials (length k.cells) ≡ a → nat_le E.capacity (length E.queue) ≡ b
        → IsPushed E c k s (submit E c k (next_submission c k (OfPeer s)))
    at_room true b e f = rw e (inl (_, refl))
    at_room false true e f = rw (e, f) (inl (_, refl))
    at_room false false e f = rw (e, f) (inr (refl, refl))

-- the receipt r of these operations, for client k, wasn't stopped
pub record IsWhole (E : Engine) (c : ℕ) (k : Client) (bad : Option Refusal) (n : ℕ) (ss : List Stamped) (r : Receipt) : Type 0 where
  pub all_good : bad ≡ None
  pub submitted : r.submitted ≡ n + length ss
  pub replica : r.engine.replica ≡ E.replica
  pub items : List Submitted
  pub queue : r.engine.queue ≡ E.queue ++ items
  pub requests : (start end : ℕ) → start ≤ suc (length k.cells) → suc (length k.cells) + length ss ≤ end
      → awaited c start end items ≡ map OfPeer ss
  pub client : Client
  pub is_client : slice_get r.engine.clients c ≡ Some client
  pub cells : length client.cells ≡ length k.cells + length ss

module _ (E : Engine) (c : ℕ) (k : Client) (bad : Option Refusal) (n : ℕ) (s : Stamped) (ss : List Stamped)
    (h : slice_get E.clients c ≡ Some k) where
  abbrev item : Submitted
  item = next_submission c k (OfPeer s)

  abbrev rest : Engine → Receipt
  rest F = submit_all c bad (suc n) F ss

  client_there : slice_get (with_item E c k s).clients c ≡ Some (with_cell k item)
  client_there = get-set_same E.clients c k (with_cell k item) h

  one_more_cell : length (with_cell k item).cells ≡ suc (length k.cells)
  one_more_cell = (let l = length-append k.cells (record { submitted = item; answer = None } ∷ []) in omega (arith, l))

  -- one is submitted before the rest
  whole_next : (r : Receipt) → IsWhole (with_item E c k s) c (with_cell k item) bad (suc n) ss r → IsWhole E c k bad n (s ∷ ss) r
  whole_next r w = record {
    all_good = w.all_good;
    submitted = (let l = w.submitted in omega (arith, l));
    replica = w.replica;
    items = item ∷ w.items;
    queue = w.queue ∙ append_assoc E.queue (item ∷ []) w.items;
    requests = requests;
    client = w.client;
    is_client = w.is_client;
    cells = (let l = w.cells in omega (arith, l, one_more_cell));
  }
    where
      requests : (start end : ℕ) → start ≤ suc (length k.cells) → suc (length k.cells) + length (s ∷ ss) ≤ end
          → awaited c start end (item ∷ w.items) ≡ map OfPeer (s ∷ ss)
      requests start end l u =
          let is : is_of_receipt c start end item
          ≡ true = and_from (c == c) _ (eq-eqb c c refl)
          (and_from (nat_le start item.serial) (nat_lt item.serial end) (le-leb start item.serial l)
          (lt-ltb item.serial end (omega arith))) in
          let others : awaited c start end w.items
          ≡ map OfPeer ss = w.requests start end (omega (arith, one_more_cell)) (omega (arith, one_more_cell)) in
          ap (λ b. cond b (OfPeer s ∷ awaited c start end w.items) (awaited c start end w.items)) is
          ∙ ap (λ (qs : List Request). OfPeer s ∷ qs) others

  unless_stopped : ((rest (with_item E c k s)).stopped ≡ None
      → IsWhole (with_item E c k s) c (with_cell k item) bad (suc n) ss (rest (with_item E c k s)))
      → (t : Outcome) → IsPushed E c k s t
      → (unless_refused E n (refusal_in t.reply) (rest t.engine)).stopped ≡ None
      → IsWhole E c k bad n (s ∷ ss) (unless_refused E n (refusal_in t.reply) (rest t.engine))
  unless_stopped later t (inl r) h = (let z = rw r.1 at h in cc)
  unless_stopped later t (inr p) h =
      let same : unless_refused E n (refusal_in t.reply) (rest t.engine)
      ≡ rest (with_item E c k s) = ap (λ o. unless_refused E n o (rest t.engine)) p.1
      ∙ ap rest p.0 in
      subst (IsWhole E c k bad n (s ∷ ss)) (sym same)
      (whole_next (rest (with_item E c k s)) (later (ap (λ (r : Receipt). r.stopped) (sym same) ∙ h)))

pub submitted_whole : (c : ℕ) (bad : Option Refusal) (n : ℕ) (E : Engine) (k : Client) (ss : List Stamped) → slice_get E.clients c ≡ Some k
    → (submit_all c bad n E ss).stopped ≡ None → IsWhole E c k bad n ss (submit_all c bad n E ss)
submitted_whole c bad n E k [] h e = record {
  all_good = none bad e;
  submitted = omega arith;
  replica = refl;
  items = [];
  queue = sym (append-nil E.queue);
  requests = λ start end l u. refl;
  client = k;
  is_client = h;
  cells = omega arith;
}
  where
    none : (o : Option Refusal) → (submit_all c o n E []).stopped ≡ None → o ≡ None
    none None e = refl
    none (Some why) e = cc
submitted_whole c bad n E k (s ∷ ss) h e =
    unless_stopped E c k bad n s ss h
    (λ f. submitted_whole c bad (suc n) (with_item E c k s) (with_cell k (next_submission c k (OfPeer s))) ss
    (client_there E c k bad n s ss h) f)
    (push E c (OfPeer s)) (pushed_cases E c k s h) e
