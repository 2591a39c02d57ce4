-- What a call that was cut short has shown, as a part of the whole.
use Rattle.std.specs.Prelude.{◌≡◌, List, ◌++◌}
use Rattle.ob_store.specs.Told.{IsCut}
use Rattle.ob_store.specs.declared.watch.Note.{Note}

-- the notes of one are the first of the other
abbrev pub AreFirstNotes : List Note → List Note → Type 0
AreFirstNotes first all = (rest : List Note) × (all ≡ first ++ rest)

-- the first steps of a whole that were cut short are the whole, cut short
abbrev pub CutsOfFronts : Type 0
CutsOfFronts = (steps all made shown : List Note) → AreFirstNotes steps all → IsCut steps made shown → IsCut all made shown
