-- Tokens that are written one after another.
use Rattle.std.proofs.Common.{◌≡◌, ◌++◌, List, ap, ◌∙◌, append_assoc}
use Rattle.json.specs.Token.{Token}

-- the tokens us after ts
pub after : (old x y ts us : List Token) → x ≡ old ++ ts → y ≡ x ++ us → y ≡ old ++ (ts ++ us)
after old x y ts us is next = next ∙ ap (λ (xs : List Token). xs ++ us) is ∙ append_assoc old ts us
