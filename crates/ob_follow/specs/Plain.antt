-- What the lists of the plain program stand for.
use Rattle.std.specs.Prelude.{◌≡◌, ℕ, Bool, true, false, List, [], ◌∷◌, map, Option, Some, None, option_map}
use Rattle.ob_store.specs.declared.watch.Note.{Note}
use Rattle.ob_schedule.specs.Holes.{Hole}
use Rattle.ob_follow.specs.declared.follow.FollowPlain.{FollowPlain}
use Rattle.ob_wants.specs.Shown.{standing_of}
use Rattle.ob_wants.specs.Visits.{hole_of_visit}
use Rattle.ob_schedule.specs.declared.want.Want.{Want}
use Rattle.ob_schedule.specs.Follow.{Follow, TakesNote, ShowsSlot, ShowsLabel, taken_up}

abbrev pub follow_of : FollowPlain → Follow
follow_of f =
    record {
      params = f.params;
      formatted = f.formatted;
      runs = f.runs;
      stands = standing_of f.stands;
      newer = option_map standing_of f.newer;
      chosen = f.chosen;
      batch = f.batch;
      leaves = f.leaves;
      holes = map hole_of_visit f.visits.items;
      wants = f.wants;
    }

-- A note was taken, but for the step that may come behind it; or it can't be, and nothing changed.
abbrev pub Took : Follow → Follow → Note → Bool → Type 0
Took old new note true = (next : Follow) → next ≡ taken_up new → TakesNote old old.holes old.wants note next
Took old new note false = (new ≡ old) × ((next : Follow) → TakesNote old old.holes old.wants note next → ⊥)

-- the same of the first of what is wanted behind the slots
abbrev pub TookWant : Follow → Follow → Want → Note → Bool → Type 0
TookWant old new want note took = (wants : List Want) → old.holes ≡ [] → old.wants ≡ want ∷ wants → Took old new note took

-- the slot that a note shows and a read may show
abbrev pub SlotTaken : Follow → Hole → Note → Option ℕ → Type 0
SlotTaken f h note (Some slot) = ShowsSlot f h note slot
SlotTaken f h note None = (slot : ℕ) → ShowsSlot f h note slot → ⊥

-- the label that a note shows and a place may show
abbrev pub LabelTaken : Follow → ℕ → ℕ → Note → Option ℕ → Type 0
LabelTaken f batch place note (Some leaf) = ShowsLabel f batch place note leaf
LabelTaken f batch place note None = (leaf : ℕ) → ShowsLabel f batch place note leaf → ⊥
