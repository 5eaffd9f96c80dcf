-- How pending entries are published, the oldest first.
use Rattle.std.proofs.Common.{◌≡◌, false, ℕ, List, [], ◌∷◌, ◌++◌, map, length, sym, ap, ◌∙◌, subst, append_assoc, arith}
use Rattle.std.proofs.lemmas.List.{reverse-append}
use Rattle.ids.specs.Tables.{lacks_room}
use Rattle.semantics.specs.Joining.{table_after, HadRoom}
use Rattle.semantics.specs.Entries.{Entry as TheEntry, IsEntryHistory, first_entries, stamped_entries, stamped_in}
use Rattle.semantics.specs.Stamped.{IsLegalStamped}
use Rattle.semantics.specs.Publication.{Publication}
use Rattle.semantics.specs.WorldHistory.{BeginsWith}
use Rattle.semantics.proofs.Beginnings.{first_of_longer}
use Rattle.semantics.proofs.OwnReplies.{all_first}
use Rattle.semantics.proofs.EntryHistories.{entries_legal}
use Rattle.semantics.proofs.GrownEngines.{begins_trans}
use Rattle.semantics.proofs.JoinedReplicas.{had_room_before}
use Rattle.replica.specs.operation.declared.command.Entry.{Entry}
use Rattle.replica.specs.operation.Ops.{entry_of}
use Rattle.replica.specs.oplog.Logs.{history}
use Rattle.replica.proofs.oplog.Oldest.{history-more}
use Rattle.replica.specs.document.Documents.{Contents, MayFollowEntries}
use Rattle.world.specs.Publishers.{CanPublish, PublishesMore, appended_of}

-- the first pending entry is the next to be published
pub oldest_next : (e : Entry) (left : List Entry) (G : List TheEntry)
    → history (e ∷ left) ++ G ≡ history left ++ entry_of e ∷ G
oldest_next e left G =
    ap (λ (F : List TheEntry). F ++ G) (reverse-append (entry_of e ∷ []) (map entry_of left))
    ∙ append_assoc (history left) (entry_of e ∷ []) G

legal_begun : (more G : List TheEntry) → IsLegalStamped (stamped_entries (more ++ G)) → IsLegalStamped (stamped_entries G)
legal_begun [] G h = h
legal_begun (e ∷ more) G h = legal_begun more G h.0

module _ (d : Contents) (e : Entry) (left : List Entry) (h : CanPublish d (e ∷ left)) where
  longer_legal : IsLegalStamped (stamped_entries (history left ++ entry_of e ∷ d.entries))
  longer_legal = subst (λ (G : List TheEntry). IsLegalStamped (stamped_entries G)) (oldest_next e left d.entries) h.legal

  longer_fits : HadRoom d.members (history left ++ entry_of e ∷ d.entries)
  longer_fits = subst (HadRoom d.members) (oldest_next e left d.entries) h.fits

  pub oldest_follows : MayFollowEntries d.entries (entry_of e)
  oldest_follows = (legal_begun (history left) (entry_of e ∷ d.entries) longer_legal).1

  -- there is room for its replica
  pub oldest_fits : lacks_room (table_after d.members d.entries) (stamped_in (entry_of e)).id.replica ≡ false
  oldest_fits = (had_room_before d.members (history left) (entry_of e ∷ d.entries) longer_fits).1

  -- it is published
  pub one_published : (k : Contents) → k.members ≡ d.members → k.entries ≡ entry_of e ∷ d.entries → PublishesMore d (e ∷ left) k left
  one_published k table entries =
      let appended : appended_of k left
      ≡ history left ++ entry_of e ∷ d.entries = λ i. history left ++ entries i in
      record {
        members = table;
        appended = appended ∙ sym (oldest_next e left d.entries);
        more = (entry_of e ∷ [], entries);
        publisher = record {
          legal = subst (λ (G : List TheEntry). IsLegalStamped (stamped_entries G)) (sym appended) longer_legal;
          fits = subst (HadRoom k.members) (sym appended)
              (subst (λ ps. HadRoom ps (history left ++ entry_of e ∷ d.entries)) (sym table) longer_fits);
        };
      }

-- nothing is published
pub none_published : (d k : Contents) (pending left : List Entry) → CanPublish d pending → k.members ≡ d.members → k.entries ≡ d.entries
    → left ≡ pending → PublishesMore d pending k left
none_published d k pending left h table entries same =
    let appended : appended_of k left ≡ appended_of d pending = λ i. history (same i) ++ entries i in
    record {
      members = table;
      appended = appended;
      more = ([], entries);
      publisher = record {
        legal = subst (λ (G : List TheEntry). IsLegalStamped (stamped_entries G)) (sym appended) h.legal;
        fits = subst (HadRoom k.members) (sym appended) (subst (λ ps. HadRoom ps (appended_of d pending)) (sym table) h.fits);
      };
    }

pub published_on : (d k m : Contents) (pending left last : List Entry) → PublishesMore d pending k left → PublishesMore k left m last
    → PublishesMore d pending m last
published_on d k m pending left last f g = record {
  members = g.members ∙ f.members;
  appended = g.appended ∙ f.appended;
  more = begins_trans m.entries k.entries d.entries g.more f.more;
  publisher = g.publisher;
}

-- one more entry is appended
pub one_appended : (own : ℕ) (d : Contents) (pending : List Entry) (e : Entry) → CanPublish d pending
    → IsEntryHistory own (entry_of e ∷ appended_of d pending)
    → lacks_room (table_after d.members (appended_of d pending)) (stamped_in (entry_of e)).id.replica ≡ false
    → (appended_of d (pending ++ e ∷ []) ≡ entry_of e ∷ appended_of d pending) × CanPublish d (pending ++ e ∷ [])
one_appended own d pending e h lawful fits =
    let appended : appended_of d (pending ++ e ∷ [])
    ≡ entry_of e ∷ appended_of d pending = ap (λ (G : List TheEntry). G ++ d.entries) (history-more pending e) in (
      appended,
      record {
        legal = subst (λ (G : List TheEntry). IsLegalStamped (stamped_entries G)) (sym appended)
            (entries_legal own (entry_of e ∷ appended_of d pending) lawful);
        fits = subst (HadRoom d.members) (sym appended) (h.fits, fits);
      },
    )

pub added : (own : ℕ) (d : Contents) (pending : List Entry) (e : Entry) → CanPublish d pending → (z : Publication)
    → record { own = own; members = d.members; published = d.entries; appended = appended_of d pending } ≡ z
    → IsEntryHistory z.own (entry_of e ∷ z.appended)
    → lacks_room (table_after z.members z.appended) (stamped_in (entry_of e)).id.replica ≡ false
    → (all : List Entry) → all ≡ pending ++ e ∷ [] → CanPublish d all
added own d pending e h z is lawful fits all more =
    subst (CanPublish d) (sym more) (one_appended own d pending e h
    (subst (λ (p : Publication). IsEntryHistory p.own (entry_of e ∷ p.appended)) (sym is) lawful)
    (subst (λ (p : Publication). lacks_room (table_after p.members p.appended) (stamped_in (entry_of e)).id.replica ≡ false) (sym is)
    fits)).1

-- what is published of a history is its first entries
pub published_first : (p : Publication) (G : List TheEntry) → BeginsWith p.appended p.published → p.appended ≡ G
    → p.published ≡ first_entries (length p.published) G
published_first p G begins is =
    let n = length p.published in
    sym (all_first p.published)
    ∙ sym (first_of_longer n begins.0 p.published (omega arith))
    ∙ ap (first_entries n) (sym begins.1 ∙ is)
