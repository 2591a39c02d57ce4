-- A row of runs over a formatted store is a history.
use Rattle.std.specs.Prelude.{map, ◌≡◌, ◌⊎◌, ℕ, Bool, false, List, [], ◌∷◌, ◌++◌, length, Option, Some}
use Rattle.std.proofs.Common.{suc, refl, sym, ap, subst, ◌∙◌, inl, inr}
use Rattle.ob_base.specs.Repeats.{Has}
use Rattle.ob_base.specs.Tree.{width}
use Rattle.ob_base.specs.declared.params.Params.{Params}
use Rattle.ob_store.specs.Disk.{Disk, Image}
use Rattle.ob_store.specs.declared.event.Event.{Event}
use Rattle.ob_store.specs.declared.watch.Note.{Note}
use Rattle.ob_tables.specs.Rank.{IsRanking}
use Rattle.ob_schedule.specs.Schedule.{Fills, gate_cell}
use Rattle.ob_seal.specs.declared.keys.Keys.{Keys}
use Rattle.ob_fresh.specs.PublicLives.{AreEndsShown}
use Rattle.ob_recover.proofs.Pads.{life_goes_on}
use Rattle.ob_recover.specs.Known.{format_gates, gates_open}
use Rattle.ob_base.specs.Layout.{EpochTwin, GenerationTwin}
use Rattle.ob_recover.specs.Life.{WordId, LifeAct, LifeState, Open, IsLife, formatted_life, life_slots, life_step, planned_labels, reached}
use Rattle.ob_serial.specs.Vaults.{Fetch, VaultCall}
use Rattle.ob_opening.specs.OpeningActs.{AreGatesIn, StandsInLife}
use Rattle.ob_twin.specs.declared.gates.Gates.{Gates}
use Rattle.ob_vault.specs.Hidden.{RingHidden}
use Rattle.ob_vault.specs.Joined.{AreRunsFrom, RunPart, Served, Stopped}
use Rattle.ob_vault.specs.Lives.{RingBegins, opening_acts}
use Rattle.ob_vault.specs.KindShown.{public_behind}
use Rattle.ob_vault.specs.RingKind.{RingFound, ring_kind, ring_public}
use Rattle.ob_vault.specs.Seen.{RingPublic}
use Rattle.ob_vault.specs.Shapes.{Shape}
use Rattle.ob_vault.proofs.Whole.{reached_join}
use Rattle.ob_histories.specs.Fills.{AllFills, AreAllFills}
use Rattle.ob_histories.specs.Histories.{IsHistory}
use Rattle.ob_histories.specs.Laws.{AreAdmitted}
use Rattle.ob_admitted.specs.Cuts.{life_behind_calls}
use Rattle.ob_admitted.specs.Fills.{FillsAll, HasFills}
use Rattle.ob_admitted.specs.Gates.{AreRunsGated, GatedRunsAreAdmitted, LeavesGates, notes_lacking}
use Rattle.ob_admitted.specs.Lives.{AreRunsInLife, IsLifeFilled}
use Rattle.ob_admitted.specs.Parts.{IsLeftAsShown, IsServedShown}
use Rattle.ob_admitted.specs.Publics.{AreRecordsWhole}
use Rattle.ob_admitted.specs.Rows.{RunNotes, lines_of_runs, rows_of}
use Rattle.ob_admitted.specs.Served.{IsServedLeft, IsServedThen}
use Rattle.ob_admitted.specs.Told.{AreAllGatesLeft, AreGatesLeft, IsRunNoted, NotedRunsAreAdmitted}
use Rattle.ob_admitted.specs.Walks.{AreLeftAsShown, AreRunsTold, AreServedParts, IsRowAsShown, IsRowInLife, IsServedPart, RowsOfRunsAreAdmitted, first_gates}
use Rattle.ob_admitted.specs.Wholes.{found_of_life}
use Rattle.ob_admitted.proofs.Acts.{LeftSound, Sound, calls_sound, ends_join, left_sound, life_first, life_last, whole_join}
use Rattle.ob_admitted.proofs.Gating.{both_marked, marked_epoch, marked_generation}
use Rattle.ob_admitted.proofs.Lives.{lives_are}
use Rattle.ob_admitted.proofs.Living.{lives_are_filled}
use Rattle.ob_admitted.proofs.Parts.{filled_first, filled_last, filled_made}
use Rattle.ob_admitted.proofs.RefusedParts.{gates_left, left_as_shown, parts_are, whole_of}
use Rattle.ob_admitted.proofs.Walking.{AreLeftAsNoted, row_lives, row_noted}
use Rattle.ob_admitted.proofs.Wholes.{repeats_ended, repeats_whole}

pub same_found : (a b : ℕ → Bool) → ◌≡◌ {A = Option (ℕ → Bool)} (Some a) (Some b) → a ≡ b
same_found a b e = cc e

module _ {S : Type 0} (disk : S → Disk) (keys : Keys) (p : Params) (word_of : WordId → ℕ) (slot : ℕ → ℕ → ℕ) (f : AllFills) (ranked : (u : ℕ) → IsRanking (width p) (slot u)) where
  abbrev At : List LifeAct → LifeState
  At before = reached p word_of (formatted_life slot) before

  abbrev Filled : LifeState → List LifeAct → Type 0
  Filled s acts = FillsAll p word_of f (planned_labels p word_of (reached p word_of s acts)) (life_slots p word_of s acts)

  -- the gates that are found first, whatever these are where no run is
  abbrev found_first : (parts : List (RunPart S)) (rows : List (List Note)) → AreRunsTold disk keys p parts rows → ℕ → Bool
  found_first (Served most old found opened calls steps behind refused words seen new ∷ parts) (notes ∷ rows) (one, more) = gates_open ((one.found_in).found).gates
  found_first [] rows told = λ cell. false
  found_first (Served most old found opened calls steps behind refused words seen new ∷ parts) [] told = λ cell. false
  found_first (Stopped old new ∷ parts) rows told = λ cell. false

  -- with no opening that only read behind any of them
  abbrev single : List (List Note) → List RunNotes
  single rows = map (λ notes. (notes, [])) rows

  row_behind : (before first : List LifeAct) (L : List LifeAct → (ℕ → Bool) → Type 0) (parts : List (RunPart S)) (rows : List (List Note)) (told : AreRunsTold disk keys p parts rows) → ((gates : ℕ → Bool) → first_gates disk keys p parts rows told ≡ Some gates → L first gates)
      → AreRunsInLife p word_of slot f (before ++ first) (found_first parts rows told) (single rows)
      → (single rows ≡ []) ⊎ ((acts : List LifeAct) × (next : ℕ → Bool) × L acts next × AreRunsInLife p word_of slot f (before ++ acts) next (single rows))
  row_behind before first L [] [] told left are = inl refl
  row_behind before first L [] (notes ∷ rows) told left are = absurd told
  row_behind before first L (Served most old found opened calls steps behind refused words seen new ∷ parts) [] told left are = absurd told
  row_behind before first L (Served most old found opened calls steps behind refused words seen new ∷ parts) (notes ∷ rows) (one, more) left are =
      inr (first, gates_open ((one.found_in).found).gates, left (gates_open ((one.found_in).found).gates) refl, are)
  row_behind before first L (Stopped old new ∷ parts) [] told left are = absurd told
  row_behind before first L (Stopped old new ∷ parts) (notes ∷ rows) told left are = absurd told

  module _ (most : ℕ) (old : S) (found : RingFound) (opened : S) (calls : List VaultCall) (steps : List (Shape × Fills)) (behind : RingHidden) (refused : Option VaultCall) (words : List ℕ) (seen : List Event) (new : S)
      (begins : RingBegins keys p (disk old).cells found) (notes : List Note) (shown : IsServedShown keys most p (disk old).cells found calls steps behind refused words seen notes) (before first : List LifeAct)
      (is : IsServedPart keys most p word_of (At before) (disk old).cells found (disk opened) calls steps behind refused words seen (disk new) first)
      (many : (asks : List (Option ℕ)) → refused ≡ Some (Fetch asks) → length asks ≡ p.places) (life : IsLife p word_of (At before) first) where
    abbrev s : LifeState
    s = At before

    abbrev began : LifeState
    began = reached p word_of s (opening_acts s)

    abbrev served : List LifeAct
    served = opening_acts s ++ ((is.run).goes).acts

    abbrev left : List LifeAct
    left = (((is.run).goes).left is.map is.is_map).made ++ is.rest

    calls_are : Sound p word_of began ((is.run).goes).acts
    calls_are = calls_sound p word_of calls steps began ((is.run).goes).acts ((begins word_of s is.stands is.small).then).begun ((is.run).goes).shown

    left_are : LeftSound p word_of left
    left_are = left_sound p word_of refused (((is.run).goes).left is.map is.is_map).made is.rest (((is.run).goes).left is.map is.is_map).in_flight many (((is.run).goes).left is.map is.is_map).first is.finds

    life_parts : IsLife p word_of s (served ++ left)
    life_parts = subst (λ (xs : List LifeAct). IsLife p word_of s xs) is.are life

    part_whole : AreRecordsWhole p first
    part_whole = subst (λ (xs : List LifeAct). AreRecordsWhole p xs) (sym is.are)
        (whole_join p word_of served left (whole_join p word_of (opening_acts s) ((is.run).goes).acts (repeats_whole p word_of (length s.log)) calls_are.whole) left_are.whole)

    part_ended : AreEndsShown p word_of s first
    part_ended = subst (λ (xs : List LifeAct). AreEndsShown p word_of s xs) (sym is.are)
        (ends_join p word_of s served left
        (ends_join p word_of s (opening_acts s) ((is.run).goes).acts (repeats_ended p word_of (life_step p word_of s (Open (suc s.generation))) (length s.log))
        (calls_are.ended (life_last p word_of s (opening_acts s) ((is.run).goes).acts (life_first p word_of s served left life_parts))))
        (left_are.ended (reached p word_of s served) (life_last p word_of s served left life_parts)))

    behind_part : IsLifeFilled p word_of slot f before → Filled s first → IsLifeFilled p word_of slot f (before ++ first)
    behind_part here filled = record {
      life = life_goes_on p word_of (formatted_life slot) before first here.life life;
      ends = ends_join p word_of (formatted_life slot) before first here.ends part_ended;
      whole = whole_join p word_of before first here.whole part_whole;
      filled = record { leaves = λ l h. filled.leaves l (subst (λ (u : LifeState). Has (planned_labels p word_of u) l) (reached_join p word_of (formatted_life slot) before first) h); slots_are = λ x h. absurd h };
    }

    as_run : (next : Option (ℕ → Bool)) → IsLifeFilled p word_of slot f before → Filled s first
        → IsLeftAsShown p word_of f s (reached p word_of began ((is.run).goes).acts) (gates_open ((shown.found_in).found).gates) steps refused (((is.run).goes).left is.map is.is_map).made first (length shown.more) next
        → IsServedThen p word_of f s (gates_open ((shown.found_in).found).gates) next notes first
    as_run next here filled told =
        parts_are disk keys p word_of slot f before ranked here most old found opened calls steps behind refused words seen new is.stands is.small begins is.run is.map is.is_map is.rest first is.finds is.are filled notes shown next told

  -- a part, with what it leaves
  module _ (most : ℕ) (old : S) (found : RingFound) (opened : S) (calls : List VaultCall) (steps : List (Shape × Fills)) (behind : RingHidden) (refused : Option VaultCall) (words : List ℕ) (seen : List Event) (new : S)
      (notes : List Note) (shown : IsServedShown keys most p (disk old).cells found calls steps behind refused words seen notes) (first : List LifeAct) (next : Option (ℕ → Bool)) where
    abbrev PartAt : LifeState → Type 0
    PartAt u = (is : IsServedPart keys most p word_of u (disk old).cells found (disk opened) calls steps behind refused words seen (disk new) first)
        × IsLeftAsShown p word_of f u (life_behind_calls p word_of u ((is.run).goes).acts) (gates_open ((shown.found_in).found).gates) steps refused (((is.run).goes).left is.map is.is_map).made first (length shown.more) next

    abbrev RunAt : List LifeAct → Type 0
    RunAt before = IsServedThen p word_of f (At before) (gates_open ((shown.found_in).found).gates) next notes first × IsLifeFilled p word_of slot f (before ++ first)

    part_goes : RingBegins keys p (disk old).cells found → (before : List LifeAct) → IsLifeFilled p word_of slot f before → IsLife p word_of (At before) first → Filled (At before) first → PartAt (At before) → RunAt before
    part_goes begins before here life filled (is, left) = (
      as_run most old found opened calls steps behind refused words seen new begins notes shown before first is left.whole life next here filled left,
      behind_part most old found opened calls steps behind refused words seen new begins notes shown before first is left.whole life here filled,
    )

  row_goes : (parts : List (RunPart S)) (rows : List (List Note)) (told : AreRunsTold disk keys p parts rows) (may_leave : Image → Type 0) (before : List LifeAct) (u : LifeState) (acts : List LifeAct) → At before ≡ u → AreRunsFrom disk keys p may_leave parts
      → (are : AreServedParts disk keys p word_of u parts acts) → IsLifeFilled p word_of slot f before → IsLife p word_of u acts → Filled u acts → AreLeftAsShown disk keys p word_of f u parts rows told acts are
      → AreRunsInLife p word_of slot f before (found_first parts rows told) (single rows)
  row_goes [] [] told may_leave before u acts same from are here life filled leaves = tt
  row_goes [] (notes ∷ rows) told may_leave before u acts same from are here life filled leaves = absurd told
  row_goes (Stopped old new ∷ parts) [] told may_leave before u acts same from are here life filled leaves = absurd told
  row_goes (Stopped old new ∷ parts) (notes ∷ rows) told may_leave before u acts same from are here life filled leaves = absurd told
  row_goes (Served most old found opened calls steps behind refused words seen new ∷ parts) [] told may_leave before u acts same from are here life filled leaves = absurd told
  row_goes (Served most old found opened calls steps behind refused words seen new ∷ parts) (notes ∷ rows) (one, more) may_leave before u acts same from (first, later, split, is, rest) here life filled leaves =
      let life_all : IsLife p word_of u (first ++ later) = subst (λ (xs : List LifeAct). IsLife p word_of u xs) split life in
      let filled_all : Filled u (first ++ later) = subst (λ (xs : List LifeAct). Filled u xs) split filled in
      let life_here : IsLife p word_of (At before) first = subst (λ (v : LifeState). IsLife p word_of v first) (sym same) (life_first p word_of u first later life_all) in
      let filled_here : Filled (At before) first = subst (λ (v : LifeState). Filled v first) (sym same) (filled_first p word_of f u first later filled_all) in
      let next : Option (ℕ → Bool) = first_gates disk keys p parts rows more in
      let part : PartAt most old found opened calls steps behind refused words seen new notes one first next (At before) =
      subst (λ (v : LifeState). PartAt most old found opened calls steps behind refused words seen new notes one first next v) (sym same) (is, leaves.0) in
      let run : RunAt most old found opened calls steps behind refused words seen new notes one first next before =
      part_goes most old found opened calls steps behind refused words seen new notes one first next from.1.0 before here life_here filled_here part in
      let there : At (before ++ first) ≡ reached p word_of u first = reached_join p word_of (formatted_life slot) before first ∙ ap (λ (v : LifeState). reached p word_of v first) same in
      let on : AreRunsInLife p word_of slot f (before ++ first) (found_first parts rows more) (single rows) =
      row_goes parts rows more (disk new).may_leave (before ++ first) (reached p word_of u first) later there from.2 rest run.1 (life_last p word_of u first later life_all) (filled_last p word_of f u first later filled_all) leaves.1 in
      let left_then : List LifeAct → (ℕ → Bool) → Type 0 = (λ xs gates. IsServedLeft p word_of f (At before) (gates_open ((one.found_in).found).gates) notes (run.0).0 xs gates) in
      (here, inl (run.0).0, tt, row_behind before first left_then parts rows more (run.0).1 on)

  -- what each run leaves is as it showed, where its refused call left what its notes tell, and the gates are found so
  row_told : (parts : List (RunPart S)) (rows : List (List Note)) (told : AreRunsTold disk keys p parts rows) (may_leave : Image → Type 0) (before : List LifeAct) (u : LifeState) (acts : List LifeAct) → At before ≡ u → AreRunsFrom disk keys p may_leave parts
      → (are : AreServedParts disk keys p word_of u parts acts) → IsLifeFilled p word_of slot f before → IsLife p word_of u acts → Filled u acts → AreLeftAsNoted disk keys p word_of u parts rows told acts are
      → AreAllGatesLeft disk keys p word_of f u parts rows told acts are → AreLeftAsShown disk keys p word_of f u parts rows told acts are
  row_told [] rows told may_leave before u acts same from are here life filled noted gated = tt
  row_told (Stopped old new ∷ parts) rows told may_leave before u acts same from are here life filled noted gated = tt
  row_told (Served most old found opened calls steps behind refused words seen new ∷ parts) [] told may_leave before u acts same from are here life filled noted gated = tt
  row_told (Served most old found opened calls steps behind refused words seen new ∷ parts) (notes ∷ rows) (one, more) may_leave before u acts same from (first, later, split, is, rest) here life filled noted gated =
      let life_all : IsLife p word_of u (first ++ later) = subst (λ (xs : List LifeAct). IsLife p word_of u xs) split life in
      let filled_all : Filled u (first ++ later) = subst (λ (xs : List LifeAct). Filled u xs) split filled in
      let next : Option (ℕ → Bool) = first_gates disk keys p parts rows more in
      let Told : LifeState → Type 0 = (λ v. (x : IsServedPart keys most p word_of v (disk old).cells found (disk opened) calls steps behind refused words seen (disk new) first)
      → IsRunNoted most p (public_behind ring_kind p (ring_public p found) steps) behind refused words seen one.more one.refused_shown (((x.run).goes).left x.map x.is_map).made (((x.run).goes).left x.map x.is_map).in_flight
      → AreGatesLeft p word_of f v (gates_open ((one.found_in).found).gates) steps refused first (length one.more) next → IsLife p word_of v first → Filled v first
      → IsLeftAsShown p word_of f v (life_behind_calls p word_of v ((x.run).goes).acts) (gates_open ((one.found_in).found).gates) steps refused (((x.run).goes).left x.map x.is_map).made first (length one.more) next
      × IsLifeFilled p word_of slot f (before ++ first)) in
      let here_told : Told (At before) = (λ x so gates_so life_so filled_so. (
        left_as_shown disk keys p word_of slot f before ranked here most old found opened calls steps behind refused words seen new x.stands ((from.1).0 word_of (At before) x.stands x.small) notes one x.run x.map x.is_map (filled_made p word_of f (At before) (opening_acts (At before) ++ ((x.run).goes).acts) (((x.run).goes).left x.map x.is_map).made x.rest first x.are filled_so) x.rest first x.finds x.are so next gates_so,
        behind_part most old found opened calls steps behind refused words seen new (from.1).0 notes one before first x
            (whole_of disk keys p word_of slot f before ranked here most old found opened calls steps behind refused words seen new x.stands ((from.1).0 word_of (At before) x.stands x.small) notes one x.run x.map x.is_map (filled_made p word_of f (At before) (opening_acts (At before) ++ ((x.run).goes).acts) (((x.run).goes).left x.map x.is_map).made x.rest first x.are filled_so) x.rest first x.finds x.are so) life_so here filled_so,
      )) in
      let part = subst Told same here_told is noted.0 gated.0 (life_first p word_of u first later life_all) (filled_first p word_of f u first later filled_all) in
      let there : At (before ++ first) ≡ reached p word_of u first = reached_join p word_of (formatted_life slot) before first ∙ ap (λ (v : LifeState). reached p word_of v first) same in
      (part.0, row_told parts rows more (disk new).may_leave (before ++ first) (reached p word_of u first) later there from.2 rest part.1 (life_last p word_of u first later life_all) (filled_last p word_of f u first later filled_all) noted.1 gated.1)

  -- the next run begins at an image that may be left, and finds the gates that this has
  abbrev BeginsNext : (Image → Type 0) → LifeState → (ℕ → Bool) → Type 0
  BeginsNext may_leave w next = (g : Gates) × (next ≡ gates_open g) × (image : Image) × may_leave image × StandsInLife keys p word_of w image × AreGatesIn g image

  next_begins : (parts : List (RunPart S)) (rows : List (List Note)) (told : AreRunsTold disk keys p parts rows) (may_leave : Image → Type 0) (w : LifeState) (acts : List LifeAct) → AreRunsFrom disk keys p may_leave parts → AreServedParts disk keys p word_of w parts acts
      → (next : ℕ → Bool) → first_gates disk keys p parts rows told ≡ Some next → BeginsNext may_leave w next
  next_begins [] rows told may_leave w acts from are next is = absurd (cc is)
  next_begins (Stopped old new ∷ parts) rows told may_leave w acts from are next is = absurd are
  next_begins (Served most old found opened calls steps behind refused words seen new ∷ parts) [] told may_leave w acts from are next is = absurd told
  next_begins (Served most old found opened calls steps behind refused words seen new ∷ parts) (notes ∷ rows) (one, more) may_leave w acts from (first, later, split, here, rest) next is = (
    ((one.found_in).found).gates,
    sym (same_found (gates_open ((one.found_in).found).gates) next is),
    (disk old).cells,
    from.0,
    here.stands,
    record { generation = ((one.found_in).found_in).generation_gates; epoch = ((one.found_in).found_in).epoch_gates },
  )

  -- where each run left the gates so, they are found as its notes tell
  row_gated : (parts : List (RunPart S)) (rows : List (List Note)) (told : AreRunsTold disk keys p parts rows) (may_leave : Image → Type 0) (before : List LifeAct) (u : LifeState) (acts : List LifeAct) → At before ≡ u → AreRunsFrom disk keys p may_leave parts
      → (are : AreServedParts disk keys p word_of u parts acts) → IsLifeFilled p word_of slot f before → IsLife p word_of u acts → Filled u acts → AreLeftAsNoted disk keys p word_of u parts rows told acts are
      → AreRunsGated disk keys p parts rows told → AreAllGatesLeft disk keys p word_of f u parts rows told acts are
  row_gated [] rows told may_leave before u acts same from are here life filled noted gated = tt
  row_gated (Stopped old new ∷ parts) rows told may_leave before u acts same from are here life filled noted gated = tt
  row_gated (Served most old found opened calls steps behind refused words seen new ∷ parts) [] told may_leave before u acts same from are here life filled noted gated = tt
  row_gated (Served most old found opened calls steps behind refused words seen new ∷ parts) (notes ∷ rows) (one, more) may_leave before u acts same from (first, later, split, is, rest) here life filled noted gated =
      let life_all : IsLife p word_of u (first ++ later) = subst (λ (xs : List LifeAct). IsLife p word_of u xs) split life in
      let filled_all : Filled u (first ++ later) = subst (λ (xs : List LifeAct). Filled u xs) split filled in
      let next : Option (ℕ → Bool) = first_gates disk keys p parts rows more in
      let q : RingPublic = public_behind ring_kind p (ring_public p found) steps in
      let Gated : LifeState → Type 0 = (λ v. (x : IsServedPart keys most p word_of v (disk old).cells found (disk opened) calls steps behind refused words seen (disk new) first)
      → IsRunNoted most p q behind refused words seen one.more one.refused_shown (((x.run).goes).left x.map x.is_map).made (((x.run).goes).left x.map x.is_map).in_flight
      → LeavesGates keys p q behind refused (notes_lacking most p q behind refused words seen one.more one.refused_shown) (disk new).may_leave
      → ((found_then : ℕ → Bool) → next ≡ Some found_then → BeginsNext (disk new).may_leave (reached p word_of v first) found_then) → IsLife p word_of v first → Filled v first
      → AreGatesLeft p word_of f v (gates_open ((one.found_in).found).gates) steps refused first (length one.more) next × IsLifeFilled p word_of slot f (before ++ first)) in
      let here_gated : Gated (At before) = (λ x so leaves begins life_so filled_so. (
        gates_left disk keys p word_of slot f before ranked here most old found opened calls steps behind refused words seen new x.stands ((from.1).0 word_of (At before) x.stands x.small) notes one x.run x.map x.is_map (filled_made p word_of f (At before) (opening_acts (At before) ++ ((x.run).goes).acts) (((x.run).goes).left x.map x.is_map).made x.rest first x.are filled_so) x.rest first x.finds x.are so leaves next begins,
        behind_part most old found opened calls steps behind refused words seen new (from.1).0 notes one before first x
            (whole_of disk keys p word_of slot f before ranked here most old found opened calls steps behind refused words seen new x.stands ((from.1).0 word_of (At before) x.stands x.small) notes one x.run x.map x.is_map (filled_made p word_of f (At before) (opening_acts (At before) ++ ((x.run).goes).acts) (((x.run).goes).left x.map x.is_map).made x.rest first x.are filled_so) x.rest first x.finds x.are so) life_so here filled_so,
      )) in
      let part = subst Gated same here_gated is noted.0 gated.0 (next_begins parts rows more (disk new).may_leave (reached p word_of u first) later from.2 rest) (life_first p word_of u first later life_all) (filled_first p word_of f u first later filled_all) in
      let there : At (before ++ first) ≡ reached p word_of u first = reached_join p word_of (formatted_life slot) before first ∙ ap (λ (v : LifeState). reached p word_of v first) same in
      (part.0, row_gated parts rows more (disk new).may_leave (before ++ first) (reached p word_of u first) later there from.2 rest part.1 (life_last p word_of u first later life_all) (filled_last p word_of f u first later filled_all) noted.1 gated.1)

  first_closed : (parts : List (RunPart S)) (rows : List (List Note)) (told : AreRunsTold disk keys p parts rows) (P : (ℕ → Bool) → Type 0) → P (λ cell. false) → ((gates : ℕ → Bool) → first_gates disk keys p parts rows told ≡ Some gates → P gates) → P (found_first parts rows told)
  first_closed [] rows told P none some = none
  first_closed (Stopped old new ∷ parts) rows told P none some = none
  first_closed (Served most old found opened calls steps behind refused words seen new ∷ parts) [] told P none some = none
  first_closed (Served most old found opened calls steps behind refused words seen new ∷ parts) (notes ∷ rows) (one, more) P none some = some (gates_open ((one.found_in).found).gates) refl

same_rows : (rows : List (List Note)) → rows_of (map (λ notes. (notes, [])) rows) ≡ rows
same_rows [] = refl
same_rows (notes ∷ rows) = ap (λ (all : List (List Note)). notes ∷ all) (same_rows rows)

-- before the first run
nothing_before : (p : Params) (word_of : WordId → ℕ) (slot : ℕ → ℕ → ℕ) (f : AllFills) → IsLifeFilled p word_of slot f []
nothing_before p word_of slot f = record { life = tt; ends = tt; whole = tt; filled = record { leaves = λ l h. absurd h; slots_are = λ x h. absurd h } }

-- the first run finds a format's gates closed, and each leaves what it showed
row_admitted : {S : Type 0} (disk : S → Disk) (keys : Keys) (p : Params) (word_of : WordId → ℕ) (may_leave : Image → Type 0) (parts : List (RunPart S)) (rows : List (List Note)) (from : AreRunsFrom disk keys p may_leave parts) (told : AreRunsTold disk keys p parts rows)
    (row : IsRowInLife disk keys p word_of parts) (f : AllFills) → AreAllFills p f → FillsAll p word_of f (planned_labels p word_of (reached p word_of (formatted_life row.slot) row.acts)) (life_slots p word_of (formatted_life row.slot) row.acts)
    → IsRowAsShown disk keys p word_of parts rows told row f → IsHistory p (lines_of_runs p rows) × AreAdmitted (lines_of_runs p rows)
row_admitted disk keys p word_of may_leave parts rows from told row f are filled as_shown =
    let in_life : AreRunsInLife p word_of row.slot f [] (found_first disk keys p word_of row.slot f row.ranked parts rows told) (map (λ notes. (notes, [])) rows) =
    row_goes disk keys p word_of row.slot f row.ranked parts rows told may_leave [] (formatted_life row.slot) row.acts refl from row.parts_are (nothing_before p word_of row.slot f) row.is_life filled as_shown.left in
    let closed = first_closed disk keys p word_of row.slot f row.ranked parts rows told
    (λ gates. ((found_of_life p (formatted_life row.slot) gates).generation_gate ≡ false) × ((found_of_life p (formatted_life row.slot) gates).epoch_gate ≡ false)) (refl, refl) as_shown.first in
    subst (λ (all : List (List Note)). IsHistory p (lines_of_runs p all) × AreAdmitted (lines_of_runs p all)) (same_rows rows)
    (lives_are p word_of row.slot f (found_first disk keys p word_of row.slot f row.ranked parts rows told) (map (λ notes. (notes, [])) rows) row.ranked are closed.0 closed.1 in_life)

row_filled : {S : Type 0} (disk : S → Disk) (keys : Keys) (p : Params) (word_of : WordId → ℕ) (parts : List (RunPart S)) (row : IsRowInLife disk keys p word_of parts) (has : HasFills p word_of (formatted_life row.slot) row.acts)
    → FillsAll p word_of has.fills (planned_labels p word_of (reached p word_of (formatted_life row.slot) row.acts)) (life_slots p word_of (formatted_life row.slot) row.acts)
row_filled disk keys p word_of parts row has = record { leaves = (has.planned).leaves; slots_are = (has.shown).slots_are }

pub rows_of_runs : {S : Type 0} (disk : S → Disk) → RowsOfRunsAreAdmitted disk
rows_of_runs disk keys p drawn made parts rows formatted from told word_of given =
    let row : IsRowInLife disk keys p word_of parts = row_lives disk keys p word_of drawn made parts rows formatted from told given in
    let has : HasFills p word_of (formatted_life row.slot) row.acts = lives_are_filled p word_of row.slot row.acts row.ranked row.is_life in
    let filled = row_filled disk keys p word_of parts row has in
    (row, has.fills, has.are, filled, λ as_shown. row_admitted disk keys p word_of (disk made).may_leave parts rows from told row has.fills has.are filled as_shown)

pub noted_runs : {S : Type 0} (disk : S → Disk) → NotedRunsAreAdmitted disk
noted_runs disk keys p drawn made parts rows formatted from told noted word_of given =
    let both = row_noted disk keys p word_of drawn made parts rows formatted from told given in
    let row : IsRowInLife disk keys p word_of parts = both.0 in
    let has : HasFills p word_of (formatted_life row.slot) row.acts = lives_are_filled p word_of row.slot row.acts row.ranked row.is_life in
    let filled = row_filled disk keys p word_of parts row has in (
      row,
      has.fills,
      has.are,
      filled,
      λ gated. row_admitted disk keys p word_of (disk made).may_leave parts rows from told row has.fills has.are filled (record {
        first = gated.first;
        left = row_told disk keys p word_of row.slot has.fills row.ranked parts rows told (disk made).may_leave [] (formatted_life row.slot) row.acts refl from row.parts_are (nothing_before p word_of row.slot has.fills) row.is_life filled (both.1 noted) gated.left;
      }),
    )

-- a format's gates are found closed where those that are set next lie
pub first_shut : {S : Type 0} (disk : S → Disk) (keys : Keys) (p : Params) (word_of : WordId → ℕ) (slot : ℕ → ℕ → ℕ) (may_leave : Image → Type 0) → ((c : Image) → may_leave c → AreGatesIn format_gates c) → (next : ℕ → Bool)
    → (g : Gates) × (next ≡ gates_open g) × (image : Image) × may_leave image × StandsInLife keys p word_of (formatted_life slot) image × AreGatesIn g image
    → ((found_of_life p (formatted_life slot) next).generation_gate ≡ false) × ((found_of_life p (formatted_life slot) next).epoch_gate ≡ false)
first_shut disk keys p word_of slot may_leave formatted next (g, is_g, image, may, stands, are) =
    let there = formatted image may in (
      ap (λ (x : ℕ → Bool). x (gate_cell p GenerationTwin 2)) is_g ∙ marked_generation g 0 (inl refl) ∙ both_marked g.generation format_gates.generation 1 image image 0 (inl refl) are.generation there.generation refl,
      ap (λ (x : ℕ → Bool). x (gate_cell p EpochTwin 1)) is_g ∙ marked_epoch g 1 (inr refl) ∙ both_marked g.epoch format_gates.epoch 5 image image 1 (inr refl) are.epoch there.epoch refl,
    )

pub gated_runs : {S : Type 0} (disk : S → Disk) → GatedRunsAreAdmitted disk
gated_runs disk keys p drawn made parts rows formatted shut from told noted gated word_of given =
    let both = row_noted disk keys p word_of drawn made parts rows formatted from told given in
    let row : IsRowInLife disk keys p word_of parts = both.0 in
    let has : HasFills p word_of (formatted_life row.slot) row.acts = lives_are_filled p word_of row.slot row.acts row.ranked row.is_life in
    let filled = row_filled disk keys p word_of parts row has in
    let before = nothing_before p word_of row.slot has.fills in
    let may : Image → Type 0 = (disk made).may_leave in
    let admitted = row_admitted disk keys p word_of may parts rows from told row has.fills has.are filled (record {
      first = λ next is. first_shut disk keys p word_of row.slot may shut next
          (next_begins disk keys p word_of row.slot has.fills row.ranked parts rows told may (formatted_life row.slot) row.acts from row.parts_are next is);
      left = row_told disk keys p word_of row.slot has.fills row.ranked parts rows told may [] (formatted_life row.slot) row.acts refl from row.parts_are before row.is_life filled (both.1 noted)
          (row_gated disk keys p word_of row.slot has.fills row.ranked parts rows told may [] (formatted_life row.slot) row.acts refl from row.parts_are before row.is_life filled (both.1 noted) gated);
    }) in
    (row, admitted.0, admitted.1)
