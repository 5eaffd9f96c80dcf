-- While the items of a receipt are in the queue, the rest of a history is on its way, whatever else is handled between them,
-- and however full the receiver's history is.
use Rattle.std.proofs.Common.{◌≡◌, ◌⊎◌, inl, inr, ℕ, suc, ◌<◌, ◌≤◌, Bool, true, false, cond, ◌&&◌, ◌==◌, nat_le, nat_lt, List, [], ◌∷◌}
use Rattle.std.proofs.Common.{◌++◌, length, Option, Some, None, refl, sym, ap, ◌∙◌, subst, arith, true≢false, slice_get}
use Rattle.std.proofs.lemmas.Bool.{cases_Bool, and_parts, false_from_ne_true, eqb-true, leb-true, ltb-true}
use Rattle.std.proofs.lemmas.Option.{none-some}
use Rattle.semantics.specs.Ids.{OpId}
use Rattle.semantics.specs.Operations.{Operation}
use Rattle.ids.specs.declared.refusal.Refusal.TheVariants.{HistoryFull}
use Rattle.semantics.specs.LegalHistory.{IsLegal, IsAmong, has_id}
use Rattle.semantics.specs.Stamped.{Stamped, operations_of, IsLegalStamped}
use Rattle.semantics.specs.Making.{is_full}
use Rattle.semantics.specs.LegalAnswer.{Request, Submitted, RefusedAt}
use Rattle.ids.specs.Tables.{lacks_room}
use Rattle.semantics.specs.Joining.{table_after}
use Rattle.semantics.specs.Exchange.{LacksRoomFor}
use Rattle.semantics.specs.Replica.{Replica, operations}
use Rattle.semantics.specs.Delivery.{is_waiting}
use Rattle.semantics.specs.OneWorld.{AreWithin}
use Rattle.semantics.specs.Engine.{Engine, Client, Cell}
use Rattle.semantics.specs.WriteSteps.{reply_to}
use Rattle.semantics.specs.WorldHistory.{WasSubmitted, HasGrown}
use Rattle.semantics.specs.WorldExchange.{WasRefusedFull}
use Rattle.semantics.proofs.ClientCells.{cell_within}
use Rattle.semantics.proofs.MovedTokens.{cell_of}
use Rattle.semantics.proofs.SoundEngines.{open_cell, IsSound, IsLater}
use Rattle.semantics.proofs.ItemsInTurn.{among_right, queued_waits}
use Rattle.semantics.proofs.SoundTaking.{floor_within}
use Rattle.semantics.proofs.GrownWorlds.{full_stays}
use Rattle.semantics.proofs.FullHistories.{waits_full, item_full}
use Rattle.semantics.proofs.EngineMoves.{IsStill, HasSubmitted, HasTaken}
use Rattle.semantics.proofs.TrackedEngines.{IsEngineOf, IsTracked}
use Rattle.semantics.proofs.ComingHistory.{Comes, AllAre, one_more_is, all_unless, HasNext, next_comes, those_from, beginning_legal}
use Rattle.semantics.proofs.ComingHistory.{beginning_within, beginning_among, beginning_shorter}
use Rattle.semantics.proofs.Arriving.{HasCome}
use Rattle.semantics.proofs.ArrivedItems.{ids_stay, item_arrived}
use Rattle.semantics.proofs.JoinedReplicas.{lacks_later}

-- the item is client c's, under a serial from the start on and below the end
abbrev pub is_of_receipt : ℕ → ℕ → ℕ → Submitted → Bool
is_of_receipt c start end x = (x.client == c) && (nat_le start x.serial && nat_lt x.serial end)

-- the requests of those items, in order
abbrev pub awaited : ℕ → ℕ → ℕ → List Submitted → List Request
awaited c start end [] = []
awaited c start end (x ∷ queue) = cond (is_of_receipt c start end x) (x.request ∷ awaited c start end queue) (awaited c start end queue)

-- ---- what came

-- the operation is applied, or the history is full, and the operation waits or was refused for that, or the table has no room for
-- the replica of one of F
abbrev pub HasArrived : List Stamped → ℕ → ℕ → ℕ → Engine → Stamped → Type 0
HasArrived F c start end E s =
    (has_id (operations E.replica) s.id ≡ true)
    ⊎ ((is_full E.replica.entries ≡ true) × ((is_waiting E.replica.waiting s.id ≡ true) ⊎ WasRefusedFull E c start end s))
    ⊎ LacksRoomFor E.replica F

-- there is no room later either
lacking_still : (F : List Stamped) (E G : Engine) → HasGrown E G → LacksRoomFor E.replica F → LacksRoomFor G.replica F
lacking_still F E G g (s, m, lacks) = (
  s,
  m,
  ap (λ ms. lacks_room (table_after ms G.replica.entries) s.id.replica) g.members
      ∙ lacks_later E.replica.members s.id.replica G.replica.entries E.replica.entries g.entries lacks,
)

refused_still : (c start end : ℕ) (E G : Engine) → HasGrown E G → (s : Stamped) → WasRefusedFull E c start end s
    → WasRefusedFull G c start end s
refused_still c start end E G g s x = record {
  serial = x.serial;
  from = x.from;
  below = x.below;
  item = x.item;
  submitted = g.submitted c x.serial x.item x.submitted;
  delivered = x.delivered;
  length = x.length;
  reply = g.replied c x.serial (RefusedAt HistoryFull x.length) x.reply;
}

-- what came stays as it is where a full history keeps what waits
arrived_still : (F : List Stamped) (c start end : ℕ) (E G : Engine) → HasGrown E G
    → (is_full E.replica.entries ≡ true → G.replica.waiting ≡ E.replica.waiting) → (s : Stamped) → HasArrived F c start end E s
    → HasArrived F c start end G s
arrived_still F c start end E G g waits s (inl t) = inl (ids_stay G.replica.entries E.replica.entries g.entries s.id t)
arrived_still F c start end E G g waits s (inr (inl x)) = inr
    (inl (
      full_stays G.replica.entries E.replica.entries g.entries x.0,
      elim x.1 [ inl w ↦ inl (ap (λ W. is_waiting W s.id) (waits x.0) ∙ w) | inr r ↦ inr (refused_still c start end E G g s r) ],
    ))
arrived_still F c start end E G g waits s (inr (inr k)) = inr (inr (lacking_still F E G g k))

-- where the history isn't full, it is applied, or there is no room
applied_there : (F : List Stamped) (c start end : ℕ) (E : Engine) (s : Stamped) → is_full E.replica.entries ≡ false
    → HasArrived F c start end E s
    → (has_id (operations E.replica) s.id ≡ true) ⊎ LacksRoomFor E.replica F
applied_there F c start end E s few (inl t) = inl t
applied_there F c start end E s few (inr (inl x)) = absurd (true≢false (sym x.0 ∙ few))
applied_there F c start end E s few (inr (inr k)) = inr k

module _ (c start end : ℕ) (base : List Operation) (F : List Stamped) where
  -- The history F is a legal one of the world K, and no longer than a history may be.
  -- A beginning of it came to the engine, and what it awaits is the rest.
  pub record IsComing (K : List Operation) (E : Engine) : Type 0 where
    pub legal : IsLegalStamped F
    pub short : length F ≤ 1048576
    pub within : AreWithin (operations_of F) K
    pub based : (i : OpId) → has_id base i ≡ true → has_id (operations E.replica) i ≡ true
    pub there : List Stamped
    pub came : AllAre (HasArrived F c start end E) there
    pub comes : Comes base F there (awaited c start end E.queue)
    -- nothing else is submitted under these serials
    pub used : (n : ℕ) → start ≤ n → n < end → (x : Submitted) × WasSubmitted E c n x

  pub coming_wider : (K L : List Operation) (E : Engine) → AreWithin K L → IsComing K E → IsComing L E
  coming_wider K L E v h = record {
    legal = h.legal;
    short = h.short;
    within = λ x m. v x (h.within x m);
    based = h.based;
    there = h.there;
    came = h.came;
    comes = h.comes;
    used = h.used;
  }

  -- the engine goes on, and the history with it to a later beginning
  coming_on : (K : List Operation) (E G : Engine) → IsComing K E → HasGrown E G
      → (there : List Stamped) → AllAre (HasArrived F c start end G) there → Comes base F there (awaited c start end G.queue)
      → IsComing K G
  coming_on K E G h g there came comes = record {
    legal = h.legal;
    short = h.short;
    within = h.within;
    based = λ i t. ids_stay G.replica.entries E.replica.entries g.entries i (h.based i t);
    there = there;
    came = came;
    comes = comes;
    used = λ n l u. (let x = h.used n l u in (x.0, g.submitted c n x.0 x.1));
  }

  -- the engine keeps its replica
  coming_same : (K : List Operation) (E G : Engine) → HasGrown E G → G.replica ≡ E.replica → (h : IsComing K E)
      → Comes base F h.there (awaited c start end G.queue) → IsComing K G
  coming_same K E G g same h comes = coming_on K E G h g h.there
      (λ s m. arrived_still F c start end E G g (λ f. ap (λ (r : Replica). r.waiting) same) s (h.came s m)) comes

  coming_still : (K : List Operation) (E G : Engine) → IsLater E G → IsStill E G → IsComing K E → IsComing K G
  coming_still K E G l still h =
      coming_same K E G l.grown still.0 h (subst (λ q. Comes base F h.there (awaited c start end q)) (sym still.1) h.comes)

  -- ---- an item more

  awaited_last : (queue : List Submitted) (x : Submitted) → is_of_receipt c start end x ≡ false
      → awaited c start end (queue ++ x ∷ []) ≡ awaited c start end queue
  awaited_last [] x e = ap (λ b. cond b (x.request ∷ []) []) e
  awaited_last (y ∷ queue) x e = ap (λ qs. cond (is_of_receipt c start end y) (y.request ∷ qs) qs) (awaited_last queue x e)

  -- its serial is above those of the receipt
  not_of_receipt : (K : List Operation) (E G : Engine) (x : Submitted) → HasSubmitted E G x → IsComing K E
      → is_of_receipt c start end x ≡ false
  not_of_receipt K E G x l h = false_from_ne_true (is_of_receipt c start end x) (λ t.
      let one = and_parts (x.client == c) (nat_le start x.serial && nat_lt x.serial end) t in
      let two = and_parts (nat_le start x.serial) (nat_lt x.serial end) one.1 in
      let y = h.used x.serial (leb-true start x.serial two.0) (ltb-true x.serial end two.1) in
      at_client (eqb-true x.client c one.0) y.1.0 y.1.1 (slice_get E.clients c) refl)
    where
      at_client : x.client ≡ c → (cell : Cell) → cell_of x.serial (slice_get E.clients c) ≡ Some cell → (o : Option Client)
          → slice_get E.clients c ≡ o → ⊥
      at_client is cell there None e = none-some cell (sym (ap (cell_of x.serial) e) ∙ there)
      at_client is cell there (Some k) e =
          let within : x.serial ≤ length k.cells = cell_within k.cells x.serial cell (sym (ap (cell_of x.serial) e) ∙ there) in
          let next : x.serial ≡ suc (length k.cells) = l.next k (ap (slice_get E.clients) is ∙ e) in
          omega arith

  coming_submitted : (K : List Operation) (E G : Engine) (x : Submitted) → HasSubmitted E G x → IsComing K E → IsComing K G
  coming_submitted K E G x l h =
      let queue : awaited c start end E.queue
      ≡ awaited c start end G.queue = sym (ap (awaited c start end) l.queue ∙ awaited_last E.queue x (not_of_receipt K E G x l h)) in
      coming_same K E G l.later.grown l.replica h (subst (Comes base F h.there) queue h.comes)

  -- ---- one item less

  module _ (K : List Operation) (E G : Engine) (x : Submitted) (lk : IsLegal K) (sound : IsSound E) (is : IsEngineOf K E)
      (l : HasTaken E G x) (h : IsComing K E) where
    queue : awaited c start end E.queue
        ≡ cond (is_of_receipt c start end x) (x.request ∷ awaited c start end G.queue) (awaited c start end G.queue)
    queue = ap (awaited c start end) l.oldest

    came_still : (s : Stamped) → HasArrived F c start end E s → HasArrived F c start end G s
    came_still = arrived_still F c start end E G l.later.grown (λ f. ap (λ (r : Replica). r.waiting) l.replica ∙ waits_full E.replica x f)

    other_taken : is_of_receipt c start end x ≡ false → IsComing K G
    other_taken e =
        let same : awaited c start end E.queue ≡ awaited c start end G.queue = queue
        ∙ ap (λ b. cond b (x.request ∷ awaited c start end G.queue) (awaited c start end G.queue)) e in
        coming_on K E G h l.later.grown h.there (λ s m. came_still s (h.came s m)) (subst (Comes base F h.there) same h.comes)

    module _ (e : is_of_receipt c start end x ≡ true) where
      first : awaited c start end E.queue ≡ x.request ∷ awaited c start end G.queue
      first = queue ∙ ap (λ b. cond b (x.request ∷ awaited c start end G.queue) (awaited c start end G.queue)) e

      next : HasNext base F (HasArrived F c start end E) x.request (awaited c start end G.queue)
      next = next_comes base F (HasArrived F c start end E) (λ s t. inl (h.based s.id t)) h.there (awaited c start end E.queue)
          h.comes h.came x.request (awaited c start end G.queue) first

      abbrev s : Stamped
      s = next.operation

      legal : IsLegalStamped (s ∷ next.before)
      legal = beginning_legal base F (s ∷ next.before) (awaited c start end G.queue) next.comes h.legal

      within : AreWithin (operations_of (s ∷ next.before)) K
      within = beginning_within base F K (s ∷ next.before) (awaited c start end G.queue) next.comes h.within

      among : IsAmong s F
      among = beginning_among base F (s ∷ next.before) (awaited c start end G.queue) next.comes s (inl refl)

      floor : x.floor ≤ length E.replica.entries
      floor = floor_within E x G.queue sound l.oldest

      -- the item is the client's, under a serial of the receipt
      client : x.client ≡ c
      client = eqb-true x.client c (and_parts (x.client == c) (nat_le start x.serial && nat_lt x.serial end) e).0

      serials : (start ≤ x.serial) × (x.serial < end)
      serials =
          let one = and_parts (x.client == c) (nat_le start x.serial && nat_lt x.serial end) e in
          let two = and_parts (nat_le start x.serial) (nat_lt x.serial end) one.1 in
          (leb-true start x.serial two.0, ltb-true x.serial end two.1)

      was_submitted : WasSubmitted G c x.serial x
      was_submitted =
          let there = sound.unanswered x (queued_waits E.due E.handled E.queue x (subst (IsAmong x) (sym l.oldest) (inl refl))) in
          subst (λ n. WasSubmitted G n x.serial x) client (l.later.grown.submitted x.client x.serial x (open_cell x, there, refl))

      refused : (n : ℕ) → reply_to E.replica x ≡ RefusedAt HistoryFull n → WasRefusedFull G c start end s
      refused n reply = record {
        serial = x.serial;
        from = serials.0;
        below = serials.1;
        item = x;
        submitted = was_submitted;
        delivered = next.is;
        length = n;
        reply = inr (record { submitted = x; reply = reply_to E.replica x }, among_right G.due G.handled _ l.replied, client, refl, reply);
      }

      -- it came to a full history, or to one that isn't
      came_full : is_full E.replica.entries ≡ true → HasArrived F c start end G s
      came_full f = elim (item_full K lk E.replica.own E.replica x s next.before is.settled floor next.is legal short within f) [
        | inl t ↦ came_still s (inl t)
        | inr y ↦ elim y [
          | inl w ↦ came_still s (inr (inl (f, inl w)))
          | inr reply ↦ inr (inl (full_stays G.replica.entries E.replica.entries l.later.grown.entries f, inr (refused _ reply)))
        ]
      ]
        where
          short : length next.before < 1048576
          short =
              let n : suc (length next.before) ≤ length F = beginning_shorter base F (s ∷ next.before)
              (awaited c start end G.queue) next.comes in
              omega (arith, n, h.short)

      came_free : is_full E.replica.entries ≡ false → HasArrived F c start end G s
      came_free f = elim
          (all_unless (λ y. has_id (operations E.replica) y.id ≡ true) (LacksRoomFor E.replica F) next.before
          (λ y m. applied_there F c start end E y f (next.had y m))) [
            | inr k ↦ inr (inr (lacking_still F E G l.later.grown k))
            | inl had ↦ (let came = item_arrived K lk E.replica.own E.replica x s next.before is.settled floor next.is legal within
                (those_from E.replica next.before had) f in
                elim (subst (λ (r : Replica). HasCome r s) (sym l.replica) came) [
                  | inl w ↦ inr (inl (w.0, inl w.1))
                  | inr (inl t) ↦ inl t
                  | inr (inr k) ↦ inr (inr (s, among, k))
                ])
          ]

      next_taken : IsComing K G
      next_taken = coming_on K E G h l.later.grown (s ∷ next.before)
          (one_more_is (HasArrived F c start end G) s next.before
          (elim (cases_Bool (is_full E.replica.entries)) [ inl f ↦ came_full f | inr f ↦ came_free f ])
          (λ y m. came_still y (next.had y m)))
          next.comes

    took_one : IsComing K G
    took_one = at_test (is_of_receipt c start end x) refl
      where
        at_test : (b : Bool) → is_of_receipt c start end x ≡ b → IsComing K G
        at_test true e = next_taken e
        at_test false e = other_taken e

  pub coming_kept : IsTracked IsComing
  coming_kept = record { grown = coming_wider; still = coming_still; submitted = coming_submitted; taken = took_one }
