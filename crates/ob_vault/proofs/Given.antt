-- Tapes of a row of runs: one function tells the words of all of them.
use Rattle.std.specs.Prelude.{if◌then◌else◌, slice_index, ◌==◌}
use Rattle.std.proofs.Common.{◌≡◌, ◌∙◌, ◌<◌, ◌≤◌, inl, inr, ⊎_elim, ℕ, suc, List, [], ◌∷◌, ◌++◌, Bool, Some, arith, ap, refl, sym, subst, append_assoc}
use Rattle.std.proofs.lemmas.Bool.{eq-eqb, ne_eqb}
use Rattle.std.proofs.lemmas.List.{append-nil}
use Rattle.ob_base.specs.declared.params.Params.{Params}
use Rattle.ob_recover.specs.Life.{LifeAct, LifeState, WordId, formatted_life, life_step, reached}
use Rattle.ob_seal.specs.declared.keys.Keys.{Keys}
use Rattle.ob_store.specs.Disk.{Disk, Image}
use Rattle.ob_opening.specs.OpeningActs.{IsLeftAt, StandsInLife}
use Rattle.ob_vault.specs.Acts.{AreBatchesSmall, AreTapeWords}
use Rattle.ob_vault.specs.Joined.{AreGiven, AreRunsFrom, IsBegunWithin, IsRunTold, RunPart, Served, Stopped, TapesExist, left_at}
use Rattle.ob_vault.specs.Lives.{RingBegins, RingFormatted, opening_acts}
use Rattle.ob_vault.specs.RingKind.{RingFound, ring_hidden}
use Rattle.ob_vault.proofs.Joining.{AreOfLife, Rise, from_life, last_left, opening_next, rise_from, step_on}

-- the words of these runs, each of the generation that it began
pub words_of_runs : {S : Type 0} → List (RunPart S) → WordId → ℕ
words_of_runs [] w = 0
words_of_runs (Served most old found opened calls steps behind refused words seen new ∷ parts) w = if w.generation == (ring_hidden found).generation then slice_index words w.place else words_of_runs parts w
words_of_runs (Stopped old new ∷ parts) w = words_of_runs parts w

-- and of the format, which drew these in generation 1
pub all_words : {S : Type 0} → List ℕ → List (RunPart S) → WordId → ℕ
all_words drawn parts w = if w.generation == 1 then slice_index drawn w.place else words_of_runs parts w

later_isnt : (g k : ℕ) → g < k → k ≡ g → ⊥
later_isnt g k lt is = omega (arith, lt, is)

-- where their generations rise, that function gives them all
runs_given : {S : Type 0} (parts : List (RunPart S)) (g h : ℕ) → Rise g parts h → (word_of : WordId → ℕ) → ((w : WordId) → g < w.generation → word_of w ≡ words_of_runs parts w) → AreGiven word_of parts
unfolding words_of_runs
runs_given [] g h rise word_of same = tt
runs_given (Served most old found opened calls steps behind refused words seen new ∷ parts) g h rise word_of same =
    let own = (ring_hidden found).generation in (
      λ i lt. same (record { generation = own; place = i }) rise.0 ∙ ap (λ (b : Bool). if b then slice_index words i else words_of_runs parts (record { generation = own; place = i })) (eq-eqb own own refl),
      runs_given parts own h rise.1 word_of (λ w later. same w (further g own w.generation rise.0 later)
          ∙ ap (λ (b : Bool). if b then slice_index words w.place else words_of_runs parts w) (ne_eqb w.generation own (later_isnt own w.generation later))),
    )
  where
    further : (a b d : ℕ) → a < b → b < d → a < d
    further a b d ab bd = omega (arith, ab, bd)
runs_given (Stopped old new ∷ parts) g h rise word_of same = runs_given parts g h rise word_of same

module _ {S : Type 0} (drawn : List ℕ) (parts : List (RunPart S)) where
  pub format_given : AreTapeWords (all_words drawn parts) 1 drawn
  unfolding all_words
  format_given i lt = ap (λ (b : Bool). if b then slice_index drawn i else words_of_runs parts (record { generation = 1; place = i })) (eq-eqb 1 1 refl)

  pub all_given : (h : ℕ) → Rise 1 parts h → AreGiven (all_words drawn parts) parts
  unfolding all_words
  all_given h rise = runs_given parts 1 h rise (all_words drawn parts) (λ w later. ap (λ (b : Bool). if b then slice_index drawn w.place else words_of_runs parts w) (ne_eqb w.generation 1 (later_isnt 1 w.generation later)))

-- ---- the generations rise

rise_on : {S : Type 0} (g k h : ℕ) (front more : List (RunPart S)) → Rise g front k → Rise k more h → Rise g (front ++ more) h
rise_on g k h [] more one two = rise_from g k more h one two
rise_on g k h (Served most old found opened calls steps behind refused words seen new ∷ front) more one two = (one.0, rise_on (ring_hidden found).generation k h front more one.1 two)
rise_on g k h (Stopped old new ∷ front) more one two = rise_on g k h front more one two

module _ {S : Type 0} (disk : S → Disk) (keys : Keys) (p : Params) where
  front_from : (may_leave : Image → Type 0) (front more : List (RunPart S)) → AreRunsFrom disk keys p may_leave (front ++ more) → AreRunsFrom disk keys p may_leave front
  front_from may_leave [] more from = tt
  front_from may_leave (part ∷ front) more from = (from.0, from.1, front_from (disk (left_at part)).may_leave front more from.2)

  last_from : (may_leave : Image → Type 0) (front : List (RunPart S)) (part : RunPart S) → AreRunsFrom disk keys p may_leave (front ++ part ∷ []) → IsBegunWithin disk keys p (last_left disk may_leave front) part × IsRunTold disk keys p part
  last_from may_leave [] part from = (from.0, from.1)
  last_from may_leave (first ∷ front) part from = last_from (disk (left_at first)).may_leave front part from.2

  -- the run behind some begins a later generation
  later_begins : (word_of : WordId → ℕ) (t : LifeState) (may_leave : Image → Type 0) (front : List (RunPart S)) (all : AreOfLife disk keys p word_of t may_leave front) (cells : Image) (f : RingFound) → last_left disk may_leave front cells → RingBegins keys p cells f
      → all.end.generation < (ring_hidden f).generation
  later_begins word_of t may_leave front all cells f begun begins =
      let at : IsLeftAt keys p word_of all.end all.flying cells = all.ends cells begun in
      ⊎_elim
      (λ (stands : StandsInLife keys p word_of all.end cells). from_here all.end stands (all.small_end [] (inl refl)))
      (λ (one : (a : LifeAct) × (all.flying ≡ Some a) × StandsInLife keys p word_of (life_step p word_of all.end a) cells).
      further all.end.generation (life_step p word_of all.end one.0).generation (ring_hidden f).generation (step_on p word_of all.end one.0 (at.allowed one.0 one.1))
      (from_here (life_step p word_of all.end one.0) one.2 (all.small_end (one.0 ∷ []) (inr (one.0, one.1, refl)))))
      (at.stands cells refl)
    where
      further : (a b d : ℕ) → a ≤ b → b < d → a < d
      further a b d ab bd = omega (arith, ab, bd)

      next_is : (g k h : ℕ) → k ≡ suc g → k ≡ h → g < h
      next_is g k h is same = omega (arith, is, same)

      from_here : (s : LifeState) → StandsInLife keys p word_of s cells → AreBatchesSmall s.log → s.generation < (ring_hidden f).generation
      from_here s stands small = next_is s.generation (reached p word_of s (opening_acts s)).generation (ring_hidden f).generation (opening_next p word_of s) (begins word_of s stands small).then.generation

  module _ (drawn : List ℕ) (made : S) (f : RingFormatted keys p drawn (disk made)) where
    abbrev Within : List (RunPart S) → Type 0
    Within parts = AreRunsFrom disk keys p (disk made).may_leave parts

    one_more : (front : List (RunPart S)) (h : ℕ) → Rise 1 front h → (part : RunPart S) → Within (front ++ part ∷ []) → (k : ℕ) × Rise 1 (front ++ part ∷ []) k
    one_more front h rise (Stopped old new) within = (h, rise_on 1 h h front (Stopped old new ∷ []) rise (omega arith))
    one_more front h rise (Served most old found opened calls steps behind refused words seen new) within =
        let word_of = all_words drawn front in
        let part : RunPart S = Served most old found opened calls steps behind refused words seen new in
        let all : AreOfLife disk keys p word_of (formatted_life f.slot) (disk made).may_leave front =
        from_life disk keys p word_of front (formatted_life f.slot) (disk made).may_leave (λ c left. f.stands word_of c left) f.small (front_from (disk made).may_leave front (part ∷ []) within) (all_given drawn front h rise) in
        let last = last_from (disk made).may_leave front part within in
        let own = (ring_hidden found).generation in
        (own, rise_on 1 all.end.generation own front (part ∷ []) all.rise (later_begins word_of (formatted_life f.slot) (disk made).may_leave front all (disk old).cells found last.0 last.1.0, omega arith))

    all_rise : (front more : List (RunPart S)) (h : ℕ) → Rise 1 front h → Within (front ++ more) → (k : ℕ) × Rise 1 (front ++ more) k
    all_rise front [] h rise within = (h, subst (λ (l : List (RunPart S)). Rise 1 l h) (sym (append-nil front)) rise)
    all_rise front (part ∷ more) h rise within =
        let same : (front ++ part ∷ []) ++ more ≡ front ++ part ∷ more = append_assoc front (part ∷ []) more in
        let again : Within ((front ++ part ∷ []) ++ more) = subst Within (sym same) within in
        let next = one_more front h rise part (front_from (disk made).may_leave (front ++ part ∷ []) more again) in
        let all = all_rise (front ++ part ∷ []) more next.0 next.1 again in
        (all.0, subst (λ (l : List (RunPart S)). Rise 1 l all.0) same all.1)

    pub tapes_for : (parts : List (RunPart S)) → Within parts → (word_of : WordId → ℕ) × AreTapeWords word_of 1 drawn × AreGiven word_of parts
    tapes_for parts within =
        let all = all_rise [] parts 1 (omega arith) within in
        (all_words drawn parts, format_given drawn parts, all_given drawn parts all.0 all.1)

pub tapes_exist : {S : Type 0} (disk : S → Disk) → TapesExist disk
tapes_exist disk keys p drawn made parts f from = tapes_for disk keys p drawn made f parts from
