use Rattle.std.proofs.Common.{rules, ◌≡◌, ◌<◌, ◌+◌, ◌*◌, ◌/◌, ◌%◌, length, get_or, arith}
use Rattle.rings.proofs.Slots.{goes_round}
use Rattle.rings.proofs.rings.slot_of.Goals as goal

pub returns : goal.returns
returns c =
    let starts = c.args.starts.now in
    let position = c.args.position in
    let before : position / 2048 < length starts = search rules in
    record {
      inside = λ k o kl ol e.
          let same_k : position / 2048 ≡ k = omega (arith, e, ol) in
          let same_o : position % 2048 ≡ o = omega (arith, e, ol) in
          let round = goes_round (get_or starts k 0) o (c.requires k 0 kl) ol in
          ((get_or starts k 0 + o) % 2048, round.0, round.1, λ t. same_k t * 2048 + (get_or starts (same_k t) 0 + same_o t) % 2048);
      past = λ ge. absurd (omega (arith, ge, before));
    }
