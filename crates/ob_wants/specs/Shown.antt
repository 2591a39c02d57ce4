-- What the lists of a stop's findings stand for.
use Rattle.std.specs.Prelude.{slice_index, slice_index_or}
use Rattle.ob_schedule.specs.declared.want.Side.TheVariants.{Even}
use Rattle.ob_schedule.specs.Standing.{StandingKnown}
use Rattle.ob_wants.specs.Rows.{in_rows, kept_number, has_bit}
use Rattle.ob_wants.specs.Seen.{label_shown}
use Rattle.ob_wants.specs.declared.standing.StandingPlain.{StandingPlain}

-- Behind a list's end a bucket lies in the first home, and was never read.
abbrev pub standing_of : StandingPlain → StandingKnown
standing_of s =
    record {
      epoch = s.epoch;
      homes = λ u. slice_index_or s.homes.items u Even;
      counts = λ u. slice_index s.counts.items u;
      counter = s.counter;
      generation = s.generation;
      generation_gate = s.generation_gate;
      epoch_gate = s.epoch_gate;
      logged = s.logged;
      maybe = s.maybe;
      used = λ u slot. has_bit (slice_index s.used.items u) slot;
      labels = label_shown s.labels.items;
      slots = λ h. kept_number (in_rows s.slots.items 0 h.bucket h.number);
    }
