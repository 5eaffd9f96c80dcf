-- What is sent to readers, and what they take in.
use Rattle.std.proofs.Common.{◌≡◌, Bool, true, false, List, [], ◌∷◌, subst, sym}
use Rattle.semantics.specs.Entries.{Entry}
use Rattle.semantics.specs.WorldHistory.{BeginsWith}
use Rattle.semantics.proofs.GrownEngines.{begins_trans}
use Rattle.followers.specs.Feeds.{AreFed, TakesOne}
use Rattle.followers.specs.declared.feed.Feed.{Feed}

-- feeds that were sent more of a history are fed from it
pub sent_more : (H G : List Entry) (old new : List Feed) → H ≡ G → ((F : List Entry) → BeginsWith H F → AreFed F old → AreFed H new)
    → AreFed G old → AreFed G new
sent_more H G old new is sends fed = subst (λ (F : List Entry). AreFed F new) is (sends G ([], is) fed)

-- a follower that took in one more goes on from what it was
pub took_more : (took : Bool) (F G H : List Entry) → TakesOne took G H → BeginsWith G F → BeginsWith H F
took_more true F G H (e, is) begins = begins_trans H G F (e ∷ [], is) begins
took_more false F G H is begins = subst (λ (K : List Entry). BeginsWith K F) (sym is) begins
