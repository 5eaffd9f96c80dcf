-- What calls with handles return, and what the handles then hold.
use Rattle.std.specs.Prelude.{◌≡◌, ◌⊎◌, ◌<◌, ◌≤◌, ◌++◌, ◌==◌, if◌then◌else◌, ℕ, List, [], drop, length, Option, None, Some}
use Rattle.semantics.specs.Journals.{entries_from}
use Rattle.semantics.specs.WorldHistory.{BeginsWith}
use Rattle.records.specs.Lines.{journal_text}
use Rattle.records.specs.Replays.{BringsBackLines}
use Rattle.jdoc_c.specs.declared.held.Held.{Held}
use Rattle.jdoc_c.specs.declared.held.Role.{Role}
use Rattle.jdoc_c.specs.declared.held.Role.TheVariants as is
use Rattle.jdoc_c.specs.declared.reader.Reader.{Reader}
use Rattle.jdoc_c.specs.declared.writer.Writer.{Writer}
use Rattle.store.specs.WholeLines.{AreWhole, first_own}
use Rattle.wire.specs.Lines.{cut}
use Rattle.jdoc_c.specs.Openings.{IsBadNumber, IsOwn}
use Rattle.jdoc_c.specs.Replies.{MayRespond, ReadReply, Replies}

-- a document that resumes from the whole lines of a journal, all of which its host has
pub record GoesOn (given : ℕ) (journal : List ℕ) (w : Writer) : Type 0 where
  pub own : IsOwn given (first_own (cut journal).lines) w.desk.replica.own
  pub brought : BringsBackLines [] (cut journal).lines w.desk.replica.entries
  pub stored : w.stored ≡ length w.desk.replica.entries
  pub handed : w.handed ≡ w.stored

-- a relation between what two handles hold: both documents, or both readers
abbrev pub Between : (Writer → Writer → Type 0) → (Reader → Reader → Type 0) → Role → Role → Type 0
Between W R (is.Writes w) (is.Writes v) = W w v
Between W R (is.Reads x) (is.Reads y) = R x y
Between W R _ _ = ⊥

-- a document that resumes from a journal, before the first request
abbrev pub Opens : (given : ℕ) → (journal : List ℕ) → Held → Type 0
Opens given journal h = (h.reply.items ≡ []) × ((w : Writer) × (h.role ≡ is.Writes w) × GoesOn given journal w)

-- a reader that has taken in nothing, before the first request
abbrev pub OpensReader : Held → Type 0
OpensReader h = (h.reply.items ≡ []) × ((x : Reader) × (h.role ≡ is.Reads x) × (x.follower.document.entries ≡ []))

-- how many entries the host has stored, and how many it was given, are as before
abbrev pub KeepsCounts : Writer → Writer → Type 0
KeepsCounts w v = (v.stored ≡ w.stored) × (v.handed ≡ w.handed)

-- a document replies to a line, or lacks the memory for it; a reader refuses
abbrev pub Calls : (line : List ℕ) → (status : ℕ) → Held → Held → Type 0
Calls line status h k = Between
    (λ w v. KeepsCounts w v
    × (((status ≡ 0) × Replies w.desk line k.reply.items v.desk)
    ⊎ ((status ≡ 1) × (k.reply.items ≡ []) × MayRespond w.desk line v.desk)))
    (λ x y. (status ≡ 7) × (k.reply.items ≡ []) × (y ≡ x))
    h.role k.role

-- a reader replies to a line, or lacks the memory for it; a document refuses
abbrev pub Asks : (line : List ℕ) → (status : ℕ) → Held → Held → Type 0
Asks line status h k = Between
    (λ w v. (status ≡ 7) × (k.reply.items ≡ []) × (v ≡ w))
    (λ x y. (y ≡ x)
    × (((status ≡ 0) × ReadReply x.follower.document.entries line k.reply.items)
    ⊎ ((status ≡ 1) × (k.reply.items ≡ []))))
    h.role k.role

-- how a copy of bytes into a buffer ends: it returns this status and the length of the bytes, and the buffer is then this
abbrev pub Copies : (bytes : List ℕ) → (status needed : ℕ) → (out out' : List ℕ) → Type 0
Copies bytes status needed out out' = (needed ≡ length bytes)
    × (((status ≡ 0) × (out' ≡ bytes ++ drop (length bytes) out) × (length bytes ≤ length out))
    ⊎ ((status ≡ 2) × (out' ≡ out) × (length out < length bytes)))

-- nothing of the buffer is written, and no length is returned
abbrev pub CopiesNothing : (needed needed' : ℕ) → (out out' : List ℕ) → Type 0
CopiesNothing needed needed' out out' = (needed' ≡ needed) × (out' ≡ out)

-- the reply to the last request is copied
abbrev pub GivesReply : (status needed : ℕ) → (out out' : List ℕ) → Held → Held → Type 0
GivesReply status needed out out' h k = Copies h.reply.items status needed out out' × (k ≡ h)

-- the lines that the host of a document hasn't stored
abbrev pub unstored : Writer → List ℕ
unstored w = journal_text (entries_from w.stored w.desk.replica.entries)

-- they are copied, and noted as handed out if they fit; or an allocation fails; a reader refuses
abbrev pub GivesLines : (status needed needed' : ℕ) → (out out' : List ℕ) → Held → Held → Type 0
GivesLines status needed needed' out out' h k = (k.reply ≡ h.reply) × Between
    (λ w v. (Copies (unstored w) status needed' out out'
    × (v ≡ record w { handed = if status == 0 then length w.desk.replica.entries else w.handed }))
    ⊎ ((status ≡ 1) × CopiesNothing needed needed' out out' × (v ≡ w)))
    (λ x y. (status ≡ 7) × CopiesNothing needed needed' out out' × (y ≡ x))
    h.role k.role

-- what the host was handed is stored; a reader refuses
abbrev pub Settles : (status : ℕ) → Held → Held → Type 0
Settles status h k = (k.reply ≡ h.reply) × Between
    (λ w v. (status ≡ 0) × (v ≡ record w { stored = w.handed }))
    (λ x y. (status ≡ 7) × (y ≡ x))
    h.role k.role

-- readers are fed, which changes no document, or an allocation fails; a reader refuses
abbrev pub Feeds : (status : ℕ) → Held → Held → Type 0
Feeds status h k = (k.reply ≡ h.reply) × Between
    (λ w v. (v.desk ≡ w.desk) × KeepsCounts w v × ((status ≡ 0) ⊎ (status ≡ 1)))
    (λ x y. (status ≡ 7) × (y ≡ x))
    h.role k.role

-- a reader takes in what has come, and returns the length that its history then has, or why it stopped; a document refuses
abbrev pub Follows : (status count count' : ℕ) → Held → Held → Type 0
Follows status count count' h k = (k.reply ≡ h.reply) × Between
    (λ w v. (status ≡ 7) × (count' ≡ count) × (v ≡ w))
    (λ x y. BeginsWith y.follower.document.entries x.follower.document.entries
    × (((status ≡ 0) × (count' ≡ length y.follower.document.entries))
    ⊎ (((status ≡ 1) ⊎ (status ≡ 6)) × (count' ≡ count))))
    h.role k.role

-- what a call with a handle does: if it is closed, the call returns 3 and leaves it closed; if it is open, R relates what it held and what
-- it holds
abbrev pub OnOpen : (R : Held → Held → Type 0) → (status : ℕ) → Option Held → Option Held → Type 0
OnOpen R status None None = status ≡ 3
OnOpen R status (Some h) (Some k) = R h k
OnOpen R status _ _ = ⊥

-- what opening a handle on a document of a journal does: either it is open now, and this many bytes of the journal were taken, or it is
-- unchanged
abbrev pub OpensAt : (given : ℕ) → (journal : List ℕ) → (status taken taken' : ℕ) → Option Held → Option Held → Type 0
OpensAt given journal status taken taken' (Some h) after = (status ≡ 4) × (taken' ≡ taken) × (after ≡ Some h)
OpensAt given journal status taken taken' None (Some h) = (status ≡ 0) × AreWhole taken' journal × Opens given journal h
OpensAt given journal status taken taken' None None = (taken' ≡ taken)
    × ((status ≡ 1) ⊎ (status ≡ 6) ⊎ ((status ≡ 5) × IsBadNumber given (first_own (cut journal).lines)))

-- what opening a handle on a reader does: it is open now, or unchanged
abbrev pub OpensReaderAt : (status : ℕ) → Option Held → Option Held → Type 0
OpensReaderAt status (Some h) after = (status ≡ 4) × (after ≡ Some h)
OpensReaderAt status None (Some h) = (status ≡ 0) × OpensReader h
OpensReaderAt status None None = (status ≡ 1) ⊎ (status ≡ 3) ⊎ (status ≡ 7)

-- what that does to the document: it is fed, or unchanged if the reader was open
abbrev pub IsRead : (status : ℕ) → Option Held → Option Held → Type 0
IsRead status before after = ((status ≡ 4) × (after ≡ before)) ⊎ OnOpen (Feeds status) status before after
