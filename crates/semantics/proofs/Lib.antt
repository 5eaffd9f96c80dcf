-- ids, names and paths
pub mod Orders
pub mod ElementPaths
-- the document is the view
pub mod CollectedEntries
pub mod AbsentIds
pub mod LegalFacts
pub mod LiveEntries
pub mod Reaching
pub mod SkipOrder
pub mod TreePreorder
pub mod ListOrder
pub mod SameCollections
pub mod SameView
pub mod DocumentIsView
-- the tree of inserts
pub mod Grafting
pub mod TreeLaw
pub mod Grounded
-- vectors
pub mod VectorCounters
pub mod NamedOperations
pub mod LooseApply
pub mod SameStamped
pub mod TableVectors
pub mod AppliedVectors
pub mod ColumnComparison
-- the checks decide
pub mod ItemTests
pub mod NamedCounters
pub mod FaultlessFollows
pub mod FollowsFaultless
pub mod AloneTests
pub mod LawfulAlone
-- glances at parts of a document
pub mod GlancesBeneath
-- expressions as a history grows
pub mod LastingSteps
-- what is made, and entry histories
pub mod ListedItems
pub mod MadeLawful
pub mod EntryHistories
pub mod Replies
pub mod OwnReplies
pub mod EntryBeginnings
-- deliveries and drains
pub mod Waiting
pub mod Taken
pub mod Drained
pub mod EarlyEnd
pub mod Delivered
pub mod Room
-- one world
pub mod OneOperation
pub mod SameWorld
pub mod ReadyThere
pub mod GrowingWorld
pub mod NoneDropped
pub mod Settled
pub mod ReachedWorlds
pub mod RecordedHistories
pub mod LivedWorlds
pub mod RunsAgree
-- exchanges
pub mod OneDelivery
pub mod UnionExchange
pub mod Staying
pub mod Growing
pub mod Arriving
pub mod CompleteExchange
-- runs of a world
pub mod SetElements
pub mod ClientCells
pub mod Beginnings
pub mod LastingAnswers
pub mod PeerReceipts
pub mod ReceivedItems
pub mod HandledItems
pub mod GrownEngines
pub mod MovedTokens
pub mod SoundEngines
pub mod ItemsInTurn
pub mod SoundClients
pub mod SoundSeeing
pub mod SoundSubmitting
pub mod SoundReceiving
pub mod SoundGiving
pub mod SoundGrowing
pub mod SoundTaking
pub mod SoundPublishing
pub mod SoundSteps
pub mod SoundWorlds
pub mod KeptSubmissions
pub mod KeptSubmitting
pub mod KeptGiving
pub mod AllSubmissions
pub mod WorldReplies
pub mod SeenReadings
-- worlds whose engines send each other what they have
pub mod AmongLists
pub mod PublishedMessages
pub mod KeptMessages
pub mod GrownWorlds
pub mod SettledItems
pub mod FullHistories
pub mod EngineMoves
pub mod KeptSteps
pub mod TrackedEngines
pub mod SentOperations
pub mod OpenedWorlds
pub mod EnginesOfOneWorld
pub mod EnginesAgree
pub mod ComingHistory
pub mod ArrivedItems
pub mod ComingItems
pub mod WholeSubmissions
pub mod KeptTickets
pub mod ReceivedBundles
pub mod ExchangedMessages
pub mod StartedReceipts
pub mod HandledReceipts
pub mod CompleteMessages
pub mod WholeExchanges
-- what stands in the history was replied Made
pub mod RepliedEntries
pub mod OneReply
-- items that are handled where an allocation may fail
pub mod HandledAnswers
pub mod HandledBatches
pub mod OutsideRules
pub mod TruePeerAnswers
-- the premises of the laws are met
pub mod LegalExample
pub mod ExchangeWitness
pub mod MessageWitness
-- worked examples, by computation
pub mod ExampleWords
pub mod ShoppingList
pub mod DeletedItem
pub mod ConcurrentAssigns
pub mod ConcurrentLists
pub mod DeletedMap
pub mod MapAndList
pub mod MissingOperations
pub mod RefusedPlaces
pub mod OutOfOrder
pub mod ForgedVectors
pub mod DroppedOperation
pub mod FullInbox
pub mod NextIds
pub mod OneEngineWorld
pub mod PlacedItems
pub mod JoinedReplicas
pub mod CheckedFaults
pub mod SingleSteps
pub mod LostItem
