-- Runs that served, one behind the other, are one life.
use Rattle.std.specs.Prelude.{◌≡◌, ℕ, List, [], ◌∷◌, ◌++◌, Option, None, Some}
use Rattle.std.specs.Ordering.{nat_cmp}
use Rattle.std.proofs.Common.{refl, sym, ap, subst, ◌∙◌, inl, inr, ⊎_elim, append_assoc}
use Rattle.ob_base.specs.declared.params.Params.{Params}
use Rattle.ob_store.specs.Disk.{Disk, Image}
use Rattle.ob_store.specs.declared.event.Event.{Event}
use Rattle.ob_schedule.specs.Schedule.{Fills}
use Rattle.ob_seal.specs.declared.keys.Keys.{Keys}
use Rattle.ob_recover.proofs.Pads.{life_goes_on}
use Rattle.ob_recover.specs.Calls.{Finds}
use Rattle.ob_recover.specs.Life.{IsActAllowed, IsLife, LifeAct, LifeState, WordId, formatted_life, life_step, reached}
use Rattle.ob_serial.specs.Serial.{Map}
use Rattle.ob_serial.specs.Vaults.{VaultCall}
use Rattle.ob_opening.specs.OpeningActs.{IsLeftAt, StandsInLife}
use Rattle.ob_vault.specs.Acts.{AreBatchesSmall, AreTapeWords}
use Rattle.ob_vault.specs.Hidden.{RingHidden}
use Rattle.ob_vault.specs.Joined.{AreGiven, AreRunsFrom, IsRunTold, RunPart, Served, Stopped}
use Rattle.ob_vault.specs.KindShown.{public_behind}
use Rattle.ob_vault.specs.Lives.{GoesOnInLife, IsRunInLife, RingFormatted, opening_acts}
use Rattle.ob_vault.specs.RingKind.{IsRingMap, RingFound, ring_hidden, ring_kind, ring_public}
use Rattle.ob_vault.specs.Shapes.{Shape}
use Rattle.ob_vault.specs.Shown.{IsInLife}
use Rattle.ob_vault.proofs.Fetching.{none_pending}
use Rattle.ob_vault.proofs.Joining.{none_found, small_found}
use Rattle.ob_vault.proofs.Whole.{reached_join, whole_goes, whole_run}
use Rattle.ob_store.specs.declared.watch.Note.{Note}
use Rattle.ob_admitted.specs.Told.{AreRunsNoted, IsRunNoted}
use Rattle.ob_admitted.specs.Walks.{AreRunsTold, AreServedParts, IsRowInLife}

module _ {S : Type 0} (disk : S → Disk) (keys : Keys) (p : Params) (word_of : WordId → ℕ) where
  -- each image that may be left is at this state, or behind the act in flight
  abbrev pub LeftWithin : LifeState → Option LifeAct → (Image → Type 0) → Type 0
  LeftWithin t pending may_leave = (c : Image) → may_leave c → IsLeftAt keys p word_of t pending c

  abbrev pub SmallWithin : LifeState → Option LifeAct → Type 0
  SmallWithin t pending = (found : List LifeAct) → Finds pending found → AreBatchesSmall (reached p word_of t found).log

  -- of each run what is left of the call that was refused is as its notes tell
  abbrev pub AreLeftAsNoted : (s : LifeState) (parts : List (RunPart S)) (rows : List (List Note)) → AreRunsTold disk keys p parts rows → (acts : List LifeAct) → AreServedParts disk keys p word_of s parts acts → Type 0
  AreLeftAsNoted s [] rows told acts are = Unit {0}
  AreLeftAsNoted s (Stopped old new ∷ parts) rows told acts are = Unit {0}
  AreLeftAsNoted s (Served most old found opened calls steps behind refused words seen new ∷ parts) [] told acts are = Unit {0}
  AreLeftAsNoted s (Served most old found opened calls steps behind refused words seen new ∷ parts) (notes ∷ rows) told acts are =
      IsRunNoted most p (public_behind ring_kind p (ring_public p found) steps) behind refused words seen (told.0).more (told.0).refused_shown
      ((((are.3).run).goes).left (are.3).map (are.3).is_map).made ((((are.3).run).goes).left (are.3).map (are.3).is_map).in_flight
      × AreLeftAsNoted (reached p word_of s are.0) parts rows told.1 are.1 are.4

  -- these runs' acts, and what is left as their notes tell, if those do
  pub record Walked (s : LifeState) (parts : List (RunPart S)) (rows : List (List Note)) (told : AreRunsTold disk keys p parts rows) (Noted : Type 0) : Type 0 where
    pub acts : List LifeAct
    pub is_life : IsLife p word_of s acts
    pub parts_are : AreServedParts disk keys p word_of s parts acts
    pub noted : Noted → AreLeftAsNoted s parts rows told acts parts_are

  -- what the next runs found of the act in flight, and their acts behind it
  pub record Resolved (t : LifeState) (pending : Option LifeAct) (parts : List (RunPart S)) (rows : List (List Note)) (told : AreRunsTold disk keys p parts rows) (Noted : Type 0) : Type 0 where
    pub found : List LifeAct
    pub finds : Finds pending found
    pub life : IsLife p word_of t found
    pub later : Walked (reached p word_of t found) parts rows told Noted

  abbrev Again : S → (parts : List (RunPart S)) (rows : List (List Note)) → AreRunsTold disk keys p parts rows → (Noted : Type 0) → Type 0
  Again new parts rows told Noted = (u : LifeState) (flies : Option LifeAct) → LeftWithin u flies (disk new).may_leave → SmallWithin u flies → Resolved u flies parts rows told Noted

  module _ (most : ℕ) (old : S) (found : RingFound) (opened : S) (calls : List VaultCall) (steps : List (Shape × Fills)) (behind : RingHidden) (refused : Option VaultCall) (words : List ℕ) (seen : List Event) (new : S) (parts : List (RunPart S)) (notes : List Note) (rows : List (List Note)) (shown : AreRunsTold disk keys p (Served most old found opened calls steps behind refused words seen new ∷ parts) (notes ∷ rows)) (NotedLater : Type 0) where
    abbrev part : RunPart S
    part = Served most old found opened calls steps behind refused words seen new

    abbrev NotedHere : IsRunTold disk keys p part → Type 0
    NotedHere told = (word_of : WordId → ℕ) (s : LifeState) (here : IsInLife p word_of (ring_hidden found) s) (tape : AreTapeWords word_of (ring_hidden found).generation words) (m : Map nat_cmp) (is : IsRingMap keys p (disk opened) found m)
        → IsRunNoted most p (public_behind ring_kind p (ring_public p found) steps) behind refused words seen (shown.0).more (shown.0).refused_shown ((told.1 word_of s here tape).left m is).made ((told.1 word_of s here tape).left m is).in_flight

    served_part : (t : LifeState) → StandsInLife keys p word_of t (disk old).cells → AreBatchesSmall t.log → (told : IsRunTold disk keys p part) → AreTapeWords word_of (ring_hidden found).generation words → Again new parts rows shown.1 NotedLater
        → Walked t (part ∷ parts) (notes ∷ rows) shown (NotedHere told × NotedLater)
    served_part t stands small told tape again =
        let (begins, goes_on, (m, is_map)) = told in
        let run : IsRunInLife keys most p word_of t found (disk opened) calls steps behind refused words seen (disk new) =
        whole_run keys most p (disk old).cells found (disk opened) (disk new) calls steps behind refused words seen begins goes_on word_of t stands small tape in
        let left = (run.goes).left m is_map in
        let acts : List LifeAct = opening_acts t ++ (run.goes).acts in
        let last : LifeState = reached p word_of (reached p word_of t (opening_acts t)) (run.goes).acts in
        let with_made : IsLife p word_of t (acts ++ left.made) = life_goes_on p word_of t acts left.made run.is_life (subst (λ (u : LifeState). IsLife p word_of u left.made) (sym run.leads) left.is_life) in
        let there : reached p word_of t (acts ++ left.made) ≡ reached p word_of last left.made = reached_join p word_of t acts left.made ∙ ap (λ (u : LifeState). reached p word_of u left.made) run.leads in
        let r : Resolved (reached p word_of t (acts ++ left.made)) left.in_flight parts rows shown.1 NotedLater = again (reached p word_of t (acts ++ left.made)) left.in_flight
        (λ c will. subst (λ (u : LifeState). IsLeftAt keys p word_of u left.in_flight c) (sym there) (left.images c will))
        (λ f finds. subst (λ (u : LifeState). AreBatchesSmall (reached p word_of u f).log) (sym there) (small_found p word_of last left.made left.in_flight left.small.0 (λ b e. left.small.1 b e) f finds)) in
        let first : List LifeAct = acts ++ (left.made ++ r.found) in
        let behind_all : reached p word_of t first ≡ reached p word_of (reached p word_of t (acts ++ left.made)) r.found =
        ap (λ (l : List LifeAct). reached p word_of t l) (sym (append_assoc acts left.made r.found)) ∙ reached_join p word_of t (acts ++ left.made) r.found in
        let life_first : IsLife p word_of t first = subst (λ (l : List LifeAct). IsLife p word_of t l) (append_assoc acts left.made r.found) (life_goes_on p word_of t (acts ++ left.made) r.found with_made r.life) in
        let later : Walked (reached p word_of t first) parts rows shown.1 NotedLater = subst (λ (u : LifeState). Walked u parts rows shown.1 NotedLater) (sym behind_all) r.later in
        let goes = whole_goes keys most p (disk old).cells found (disk opened) (disk new) calls steps behind refused words seen begins goes_on word_of t stands small tape in
        record {
          acts = first ++ later.acts;
          is_life = life_goes_on p word_of t first later.acts life_first later.is_life;
          parts_are = (first, later.acts, refl {a = first ++ later.acts}, record { stands = stands; small = small; run = run; map = m; is_map = is_map; rest = r.found; finds = r.finds; are = refl {a = first} }, later.parts_are);
          noted = λ noted. (
            subst (λ (g : GoesOnInLife keys most p word_of (reached p word_of t (opening_acts t)) found (disk opened) calls steps behind refused words seen (disk new)).
                IsRunNoted most p (public_behind ring_kind p (ring_public p found) steps) behind refused words seen (shown.0).more (shown.0).refused_shown (g.left m is_map).made (g.left m is_map).in_flight)
                (sym goes) (noted.0 word_of (reached p word_of t (opening_acts t)) (begins word_of t stands small).then tape m is_map),
            later.noted noted.1,
          );
        }

  walk : (parts : List (RunPart S)) (rows : List (List Note)) (t : LifeState) (pending : Option LifeAct) (may_leave : Image → Type 0) → LeftWithin t pending may_leave → SmallWithin t pending → (from : AreRunsFrom disk keys p may_leave parts)
      → (told : AreRunsTold disk keys p parts rows) → AreGiven word_of parts → Resolved t pending parts rows told (AreRunsNoted disk keys p may_leave parts rows from told)
  walk [] rows t pending may_leave left small from told given = record { found = []; finds = inl refl; life = tt; later = record { acts = []; is_life = tt; parts_are = refl; noted = λ noted. tt } }
  walk (Served most old found opened calls steps behind refused words seen new ∷ parts) [] t pending may_leave left small from told given = absurd told
  walk (Stopped old new ∷ parts) [] t pending may_leave left small from told given = absurd told
  walk (Stopped old new ∷ parts) (notes ∷ rows) t pending may_leave left small from told given = absurd told
  walk (Served most old found opened calls steps behind refused words seen new ∷ parts) (notes ∷ rows) t pending may_leave left small from told given =
      let at : IsLeftAt keys p word_of t pending (disk old).cells = left (disk old).cells from.0 in
      let again : Again new parts rows told.1 (AreRunsNoted disk keys p (disk new).may_leave parts rows from.2 told.1) = λ u flies many smalls. walk parts rows u flies (disk new).may_leave many smalls from.2 told.1 given.1 in
      ⊎_elim
      (λ (stands : StandsInLife keys p word_of t (disk old).cells). record {
        found = [];
        finds = inl refl;
        life = tt;
        later = served_part most old found opened calls steps behind refused words seen new parts notes rows told (AreRunsNoted disk keys p (disk new).may_leave parts rows from.2 told.1) t stands (small [] (inl refl)) from.1 given.0 again;
      })
      (λ (one : (a : LifeAct) × (pending ≡ Some a) × StandsInLife keys p word_of (life_step p word_of t a) (disk old).cells). record {
        found = one.0 ∷ [];
        finds = inr (one.0, one.1, refl);
        life = (at.allowed one.0 one.1, tt);
        later = served_part most old found opened calls steps behind refused words seen new parts notes rows told (AreRunsNoted disk keys p (disk new).may_leave parts rows from.2 told.1) (life_step p word_of t one.0) one.2 (small (one.0 ∷ []) (inr (one.0, one.1, refl))) from.1 given.0 again;
      })
      (at.stands (disk old).cells refl)

  -- a row's acts, and so for each run
  abbrev pub RowNoted : (parts : List (RunPart S)) (rows : List (List Note)) → AreRunsTold disk keys p parts rows → (Noted : Type 0) → Type 0
  RowNoted parts rows told Noted = (row : IsRowInLife disk keys p word_of parts) × (Noted → AreLeftAsNoted (formatted_life row.slot) parts rows told row.acts row.parts_are)

  pub row_noted : (drawn : List ℕ) (made : S) (parts : List (RunPart S)) (rows : List (List Note)) → RingFormatted keys p drawn (disk made) → (from : AreRunsFrom disk keys p (disk made).may_leave parts) → (told : AreRunsTold disk keys p parts rows) → AreGiven word_of parts
      → RowNoted parts rows told (AreRunsNoted disk keys p (disk made).may_leave parts rows from told)
  row_noted drawn made parts rows f from told given =
      let t : LifeState = formatted_life f.slot in
      let N : Type 0 = AreRunsNoted disk keys p (disk made).may_leave parts rows from told in
      let r : Resolved t None parts rows told N = walk parts rows t None (disk made).may_leave
      (λ c left. record { allowed = λ a e. none_pending (IsActAllowed p word_of t a) a e; stands = λ i same. inl (subst (λ (x : Image). StandsInLife keys p word_of t x) same (f.stands word_of c left)) })
      (λ found finds. subst (λ (l : List LifeAct). AreBatchesSmall (reached p word_of t l).log) (sym (none_found found finds)) f.small) from told given in
      let w : Walked t parts rows told N = subst (λ (l : List LifeAct). Walked (reached p word_of t l) parts rows told N) (none_found r.found r.finds) r.later in
      (record { slot = f.slot; ranked = f.ranked; acts = w.acts; is_life = w.is_life; parts_are = w.parts_are }, w.noted)

  pub row_lives : (drawn : List ℕ) (made : S) (parts : List (RunPart S)) (rows : List (List Note)) → RingFormatted keys p drawn (disk made) → AreRunsFrom disk keys p (disk made).may_leave parts → AreRunsTold disk keys p parts rows → AreGiven word_of parts
      → IsRowInLife disk keys p word_of parts
  row_lives drawn made parts rows f from told given = (row_noted drawn made parts rows f from told given).0
