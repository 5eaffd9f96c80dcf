-- What is sent, and what is ahead, are the first entries of a history, and a follower takes in the beginning of it.
use Rattle.std.proofs.Common.{◌≡◌, ◌≤◌, ◌<◌, refl, sym, ap, ◌∙◌, ℕ, Bool, true, false, cond, nat_lt, List, [], ◌∷◌, ◌++◌, length, map, drop}
use Rattle.std.proofs.Common.{reverse, slice_index_or, Option, arith}
use Rattle.std.proofs.lemmas.Bool.{ltb-true, ltb-false}
use Rattle.std.proofs.lemmas.List.Elements.{All-push}
use Rattle.std.proofs.lemmas.List.{append-nil, append_assoc, drop_all, drop-append-le, length-reverse, map-append, reverse-append}
use Rattle.semantics.specs.Entries.{Entry as TheEntry, first_entries}
use Rattle.semantics.specs.Journals.{entries_from}
use Rattle.semantics.specs.WorldHistory.{BeginsWith}
use Rattle.semantics.proofs.Beginnings.{begins_first, first_of_longer, no_shorter}
use Rattle.semantics.proofs.OwnReplies.{all_first}
use Rattle.document.specs.operation.declared.command.Entry.{Entry}
use Rattle.document.specs.operation.Ops.{entry_of}
use Rattle.document.specs.oplog.Logs.{history}
use Rattle.rtrb.specs.Ring.{sent}
use Rattle.followers.specs.Feeds.{AreFed, IsFedFrom, IsFollowing, awaiting}
use Rattle.followers.specs.declared.feed.Feed.{Feed}

-- what comes after the first n entries, and these
pub behind_first : (n : ℕ) (G : List TheEntry) → reverse (drop n (reverse G)) ++ first_entries n G ≡ G
behind_first n [] = ap (λ (l : List TheEntry). reverse l ++ []) (drop_all n [] (omega arith))
behind_first n (e ∷ G) = at_test (behind_first n G) (nat_lt (length G) n) refl
  where
    at_test : reverse (drop n (reverse G)) ++ first_entries n G ≡ G → (b : Bool) → nat_lt (length G) n ≡ b
        → reverse (drop n (reverse (e ∷ G))) ++ cond b (e ∷ G) (first_entries n G) ≡ e ∷ G
    at_test rest true t =
        let short : length G < n = ltb-true (length G) n t in
        let long : length (reverse (e ∷ G)) ≤ n = omega (arith, length-reverse (e ∷ G)) in
        ap (λ (l : List TheEntry). reverse l ++ (e ∷ G)) (drop_all n (reverse (e ∷ G)) long)
    at_test rest false t =
        let least : n ≤ length G = ltb-false (length G) n t in
        let long : n ≤ length (reverse G) = omega (arith, length-reverse G) in
        let apart : reverse (drop n (reverse (e ∷ G))) ≡ e ∷ reverse (drop n (reverse G)) =
        ap (λ (l : List TheEntry). reverse (drop n l)) (reverse-append (e ∷ []) G)
        ∙ ap reverse (drop-append-le n (reverse G) (e ∷ []) long)
        ∙ reverse-append (drop n (reverse G)) (e ∷ []) in
        ap (λ (l : List TheEntry). l ++ first_entries n G) apart
        ∙ ap (λ (l : List TheEntry). e ∷ l) rest

map_reverse : (es : List Entry) → map entry_of (reverse es) ≡ reverse (map entry_of es)
map_reverse [] = refl
map_reverse (e ∷ es) =
    ap (map entry_of) (reverse-append (e ∷ []) es)
    ∙ map-append entry_of (reverse es) (e ∷ [])
    ∙ ap (λ (l : List TheEntry). l ++ entry_of e ∷ []) (map_reverse es)
    ∙ sym (reverse-append (entry_of e ∷ []) (map entry_of es))

-- the entries from n on, reversed, and the first n
pub ahead_of : (n : ℕ) (es : List Entry) (G : List TheEntry) (sent : List Entry)
    → map entry_of es ≡ entries_from n G → IsFedFrom G n [] sent → IsFedFrom G (length G) (reverse es) sent
ahead_of n es G sent rest fed = record {
  within = omega arith;
  first = ap (λ (l : List TheEntry). l ++ history sent) (map_reverse es ∙ ap reverse rest)
      ∙ ap (λ (l : List TheEntry). reverse (entries_from n G) ++ l) fed.first
      ∙ behind_first n G ∙ sym (all_first G);
}

-- what is fed from a document is fed from it when it has grown
pub grown : (n : ℕ) (ahead sent : List Entry) (G H : List TheEntry) → BeginsWith H G → IsFedFrom G n ahead sent → IsFedFrom H n ahead sent
grown n ahead sent G H begins fed =
    let longer : length G ≤ length H = no_shorter H G begins in
    let within : n ≤ length G = fed.within in
    record {
      within = omega arith;
      first = fed.first ∙ sym (first_of_longer n begins.0 G within) ∙ ap (λ (l : List TheEntry). first_entries n l) (sym begins.1);
    }

-- the same for all feeds of a document
pub all_grown : (fs : List Feed) (G H : List TheEntry) → BeginsWith H G → AreFed G fs → AreFed H fs
all_grown fs G H begins fed k d within =
    let f : Feed = slice_index_or fs k d in
    grown f.next f.ahead.items (sent f.to) G H begins (fed k d within)

-- a feed that has sent nothing is fed from any document
pub added : (fs : List Feed) (f : Feed) (G : List TheEntry) → AreFed G fs → IsFedFrom [] f.next f.ahead.items (sent f.to)
    → AreFed G (fs ++ f ∷ [])
added fs f G all one =
    All-push (λ (x : Feed). IsFedFrom G x.next x.ahead.items (sent x.to)) fs f all
    (grown f.next f.ahead.items (sent f.to) [] G (G, sym (append-nil G)) one)

-- what moves from ahead into the ring leaves the feed fed as before
pub pushed : (n m : ℕ) (ahead left sent more : List Entry) (G : List TheEntry)
    → map entry_of left ++ history more ≡ map entry_of ahead ++ history sent → m ≡ n
    → IsFedFrom G n ahead sent → IsFedFrom G m left more
pushed n m ahead left sent more G same is fed =
    let within : n ≤ length G = fed.within in
    record {
      within = omega (arith, is);
      first = same ∙ fed.first ∙ ap (λ (k : ℕ). first_entries k G) (sym is);
    }

-- what has come is a beginning of what was sent, so what was taken in is one too
pub begins_fed : (n : ℕ) (ahead sent came known : List Entry) (kept : Option Entry) (taken G : List TheEntry)
    → came ++ known ≡ sent → IsFollowing taken kept came → IsFedFrom G n ahead sent → BeginsWith G taken
begins_fed n ahead sent came known kept taken G all follows fed =
    let begins : BeginsWith G (first_entries n G) = begins_first n G in
    let behind : List TheEntry = reverse (map entry_of known) in
    let apart : history sent ≡ behind ++ (awaiting kept ++ taken) =
    ap history (sym all)
    ∙ ap reverse (map-append entry_of came known)
    ∙ reverse-append (map entry_of came) (map entry_of known)
    ∙ ap (λ (l : List TheEntry). behind ++ l) follows in
    let whole : G ≡ begins.0 ++ (map entry_of ahead ++ (behind ++ (awaiting kept ++ taken))) =
    begins.1 ∙ ap (λ (l : List TheEntry). begins.0 ++ l) (sym fed.first ∙ ap (λ (l : List TheEntry). map entry_of ahead ++ l) apart) in (
      begins.0 ++ (map entry_of ahead ++ (behind ++ awaiting kept)),
      whole
          ∙ ap (λ (l : List TheEntry). begins.0 ++ (map entry_of ahead ++ l)) (sym (append_assoc behind (awaiting kept) taken))
          ∙ ap (λ (l : List TheEntry). begins.0 ++ l) (sym (append_assoc (map entry_of ahead) (behind ++ awaiting kept) taken))
          ∙ sym (append_assoc begins.0 (map entry_of ahead ++ (behind ++ awaiting kept)) taken),
    )
