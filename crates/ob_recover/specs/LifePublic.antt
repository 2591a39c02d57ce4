-- What is public of a life: what anyone knows who saw all that was shown.
use Rattle.std.specs.Prelude.{ℕ, ◌+◌, Bool, List, map}
use Rattle.std.specs.List.{flat_map}
use Rattle.ob_base.specs.Tree.{below}
use Rattle.ob_base.specs.declared.params.Params.{Params}
use Rattle.ob_recover.specs.Life.{LifeState, WordId, leaf_of_word, phase_labels}
use Rattle.ob_ring.specs.FlatTable.{reads}
use Rattle.ob_schedule.specs.Schedule.{Public}

module _ (p : Params) (word_of : WordId → ℕ) where
  -- the leaves that the n-th batch of the running epoch shows
  abbrev pub leaves_in : LifeState → ℕ → List ℕ
  leaves_in s n = map (λ l. leaf_of_word p word_of l.word) (phase_labels p word_of (s.epoch + 1) 0 (s.content).book s.log n)

  -- The last epoch that ended, where each bucket lies and how often it was read before the running epoch, the eviction counter, the
  -- register gates that the present run knows to be open, and the leaves that this attempt has shown so far.
  abbrev pub public_in : LifeState → (ℕ → Bool) → Public
  public_in s gates = record {
    epoch = s.epoch;
    homes = (s.content).home;
    counts = λ u. reads p (s.content).table u;
    counter = ((s.content).table).counter;
    gates = gates;
    leaves = flat_map (leaves_in s) (below s.begun);
  }
