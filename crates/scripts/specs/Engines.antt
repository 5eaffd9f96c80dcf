-- The first line of a script, as the engines of a world.
use Rattle.std.specs.Prelude.{ℕ, ◌^◌, ◌&&◌, List, [], ◌∷◌, length, Bool, codes, Result, Ok, Err, if◌then◌else◌, nat_lt}
use Rattle.std.specs.List.{list_all}
use Rattle.std.specs.Str.{bytes_eq}
use Rattle.ids.specs.Configurations.{Configuration, is_from_one_to, is_within_limits}
use Rattle.ids.specs.declared.refusal.Refusal.{Refusal}
use Rattle.ids.specs.declared.refusal.Refusal.TheVariants.{BadLine, BadConfig}
use Rattle.serde_json.specs.Data.{Data, Items, no_items, item}
use Rattle.world.specs.wire.Forms.{and_then, json_form, number_form, list_form, phrase_form}
use Rattle.requests.specs.declared.edition.Edition.{Edition}
use Rattle.requests.specs.declared.edition.Edition.TheVariants.{First, Second}

-- each part as a number
abbrev pub numbers_of : Items → Result (List ℕ) Refusal
numbers_of no_items = Ok []
numbers_of (item part parts) = and_then (λ n. and_then (λ ns. Ok (n ∷ ns)) (numbers_of parts)) (number_form part)

-- a list of numbers
abbrev pub numbers_form : Data → Result (List ℕ) Refusal
numbers_form d = and_then numbers_of (list_form d)

-- seven parts as an engine: its number, its members, how many clients and readers, and the limits of queue, batch and serials
abbrev pub engine_of : Items → Result Configuration Refusal
engine_of (item own (item members (item clients (item readers (item queue (item batch (item serials no_items))))))) =
    and_then (λ o. and_then (λ ms. and_then (λ c. and_then (λ r. and_then (λ q. and_then (λ b. and_then (λ s.
    Ok (record { own = o; members = ms; clients = c; readers = r; queue = q; batch = b; serials = s }))
    (number_form serials)) (number_form batch)) (number_form queue)) (number_form readers)) (number_form clients))
    (numbers_form members)) (number_form own)
engine_of _ = Err BadLine

-- a list of seven: the own number, the members, and five numbers
abbrev pub engine_form : Data → Result Configuration Refusal
engine_form d = and_then engine_of (list_form d)

-- each engine in its turn
abbrev pub engines_of : Items → Result (List Configuration) Refusal
engines_of no_items = Ok []
engines_of (item engine engines) = and_then (λ g. and_then (λ gs. Ok (g ∷ gs)) (engines_of engines)) (engine_form engine)

-- a world has from 1 to 16 engines
abbrev pub if_so_many : List Configuration → Result (List Configuration) Refusal
if_so_many gs = if is_from_one_to 16 (length gs) then Ok gs else Err BadLine

-- a list of engines
abbrev pub only_engines : Items → Result (List Configuration) Refusal
only_engines (item engines no_items) = and_then if_so_many (and_then engines_of (list_form engines))
only_engines _ = Err BadLine

-- the word `world` or `world2`, and its engines
abbrev pub world_of : List ℕ × Items → Result (List Configuration) Refusal
world_of p = if bytes_eq p.0 (codes "world") then only_engines p.1
    else (if bytes_eq p.0 (codes "world2") then only_engines p.1 else Err BadLine)

-- a word and the engines
abbrev pub world_form : Data → Result (List Configuration) Refusal
world_form d = and_then world_of (phrase_form d)

-- the second edition is that of `world2`
abbrev pub edition_by : Result (List ℕ × Items) Refusal → Edition
edition_by (Ok p) = if bytes_eq p.0 (codes "world2") then Second else First
edition_by (Err why) = First

-- the edition of a script with this first line
abbrev pub edition_of : List ℕ → Edition
edition_of text = edition_by (and_then phrase_form (json_form text))

-- the number fits into its type
abbrev pub fits : ℕ → Bool
fits n = nat_lt n (2 ^ 32)

-- each number of the configuration fits
abbrev pub all_fit : Configuration → Bool
all_fit g = fits g.own && (list_all fits g.members && (fits g.clients && (fits g.readers
    && (fits g.queue && (fits g.batch && fits g.serials)))))

-- each number of each engine fits
abbrev pub if_fit : List Configuration → Result (List Configuration) Refusal
if_fit gs = if list_all all_fit gs then Ok gs else Err BadConfig

-- the engines that a line lists
abbrev pub said_engines : List ℕ → Result (List Configuration) Refusal
said_engines text = and_then if_fit (and_then world_form (json_form text))

-- each engine is within the limits
abbrev pub if_within_limits : List Configuration → Result (List Configuration) Refusal
if_within_limits gs = if list_all is_within_limits gs then Ok gs else Err BadConfig

-- the engines on the first line of a script
abbrev pub engines_line : List ℕ → Result (List Configuration) Refusal
engines_line text = and_then if_within_limits (said_engines text)
