-- What calls draw, one behind the other, is what a life shows.
use Rattle.std.specs.Prelude.{◌≡◌, ℕ, ◌<◌, List, [], ◌∷◌, ◌++◌, length, map, slice_index}
use Rattle.std.proofs.Common.{arith, length-append, refl, sym, ap, subst, ◌∙◌}
use Rattle.std.proofs.lemmas.List.{append-nil, append_assoc, get_or_append_left}
use Rattle.ob_base.specs.declared.params.Params.{Params}
use Rattle.ob_vault.specs.Shapes.{Shape}
use Rattle.ob_vault.specs.KindShown.{AreDrawn}
use Rattle.ob_fresh.proofs.Turns.{drawn_same, next_on}
use Rattle.ob_fresh.specs.Drawn.{AllDrawNext, WordsKept, words_behind}
use Rattle.ob_recover.proofs.FreshLaws.{lives_are_fresh}
use Rattle.ob_end.specs.EndRuns.{end_writes}
use Rattle.ob_recover.proofs.Pads.{life_goes_on}
use Rattle.ob_recover.specs.Known.{slot_kept}
use Rattle.ob_recover.specs.Lives.{life_batch}
use Rattle.ob_recover.specs.Life.{IsLife, LifeAct, LifeState, WordId, formatted_life, life_step, reached}
use Rattle.ob_vault.specs.Acts.{AreTapeWords, id_write}
use Rattle.ob_vault.specs.Hidden.{RingDraws, RingHidden}
use Rattle.ob_vault.specs.RingKind.{ring_kind}
use Rattle.ob_vault.specs.RingVaults.{write_from}
use Rattle.ob_schedule.specs.Schedule.{Fills}
use Rattle.ob_serial.specs.Vaults.{End, Fetch, VaultCall}
use Rattle.ob_vault.proofs.Batches as batches
use Rattle.ob_vault.proofs.Ends as ends
use Rattle.ob_vault.specs.Shown.{AreActsOf, AreFilledBy, AreShownBy, DrawnIsShown, IsInLife}

-- ---- words go on

-- the later words begin with these, in the same generation
pub record GoesOn (h later : RingHidden) : Type 0 where
  pub more : List ℕ
  pub words : later.words ≡ h.words ++ more
  pub generation : later.generation ≡ h.generation

pub tape_before : (word_of : WordId → ℕ) (h later : RingHidden) → GoesOn h later → AreTapeWords word_of later.generation later.words → AreTapeWords word_of h.generation h.words
tape_before word_of h later g tape i lt =
    ap (λ (n : ℕ). word_of (record { generation = n; place = i })) (sym g.generation)
    ∙ tape i (omega (arith, lt, ap (λ (l : List ℕ). length l) g.words, length-append h.words g.more))
    ∙ ap (λ (l : List ℕ). slice_index l i) g.words
    ∙ get_or_append_left h.words g.more 0 i lt

one_on : (p : Params) (h : RingHidden) (call : VaultCall) (f : Fills) (behind : RingHidden) → RingDraws p h call f behind → GoesOn h behind
one_on p h (Fetch asks) f behind (d, fit) = record { more = (d.next).words; words = ap (λ (x : RingHidden). x.words) d.behind_is; generation = ap (λ (x : RingHidden). x.generation) d.behind_is }
one_on p h (End writes) f behind d = record { more = d.words; words = d.grows; generation = d.generation }

then_on : (h mid later : RingHidden) → GoesOn h mid → GoesOn mid later → GoesOn h later
then_on h mid later one two = record {
  more = one.more ++ two.more;
  words = two.words ∙ ap (λ (l : List ℕ). l ++ two.more) one.words ∙ append_assoc h.words one.more two.more;
  generation = two.generation ∙ one.generation;
}

pub all_on : (p : Params) (h behind : RingHidden) (calls : List VaultCall) (steps : List (Shape × Fills)) → AreDrawn ring_kind p h calls steps behind → GoesOn h behind
all_on p h behind [] [] is = record { more = []; words = ap (λ (x : RingHidden). x.words) is ∙ sym (append-nil h.words); generation = ap (λ (x : RingHidden). x.generation) is }
all_on p h behind (call ∷ calls) (step ∷ steps) (mid, draws, rest) = then_on h mid behind (one_on p h call step.1 mid draws) (all_on p mid behind calls steps rest)
all_on p h behind [] (step ∷ steps) none = absurd none
all_on p h behind (call ∷ calls) [] none = absurd none

-- ---- one call

record IsOne (p : Params) (word_of : WordId → ℕ) (s : LifeState) (call : VaultCall) (f : Fills) (behind : RingHidden) : Type 0 where
  acts : List LifeAct
  is_life : IsLife p word_of s acts
  then : IsInLife p word_of behind (reached p word_of s acts)
  own : AreActsOf call acts
  filled : AreFilledBy p word_of s acts call f
  turn : (k : WordsKept) → k.drawn ≡ s.drawn → AllDrawNext p word_of s k acts

one_call : (p : Params) (word_of : WordId → ℕ) (s : LifeState) (h : RingHidden) (call : VaultCall) (f : Fills) (behind : RingHidden) → IsInLife p word_of h s → RingDraws p h call f behind → AreTapeWords word_of behind.generation behind.words
    → IsOne p word_of s call f behind
one_call p word_of s h (Fetch asks) f behind here (d, fit) tape =
    let own = subst (λ (x : RingHidden). AreTapeWords word_of x.generation x.words) d.behind_is tape in
    let some : length h.records < p.batches = (let few = fit.few in let is = ap (λ (x : RingHidden). length x.records) d.behind_is in omega (arith, few, is, length-append h.records (d.next ∷ []))) in
    record {
      acts = batches.acts p word_of s h here asks f behind d some own;
      is_life = batches.batch_life p word_of s h here asks f behind d some own;
      then = batches.batch_then p word_of s h here asks f behind d some own fit;
      own = (life_batch d.next, (d.is_next).asked, refl);
      filled = batches.batch_filled p word_of s h here asks f behind d some own;
      turn = λ k so_far. ((λ i. record { generation = ((d.is_next).generation ∙ sym here.generation) i; place = ((d.is_next).first ∙ sym here.drawn ∙ sym so_far) i }), (tt, tt));
    }
one_call p word_of s h (End ws) f behind here d tape =
    let own = subst (λ (l : List ℕ). AreTapeWords word_of h.generation l) d.grows (subst (λ (n : ℕ). AreTapeWords word_of n behind.words) d.generation tape) in
    record {
      acts = ends.acts p word_of s h here ws f behind d own;
      is_life = ends.end_life p word_of s h here ws f behind d own;
      then = ends.end_then p word_of s h here ws f behind d own;
      own = (map id_write (end_writes p (map write_from ws) d.words h.generation (length h.words)), length behind.words, slot_kept behind.content, refl);
      filled = ends.end_filled p word_of s h here ws f behind d own;
      turn = λ k so_far. (tt, (ends.end_turn p word_of s h here ws f behind d own k so_far, tt));
    }

-- ---- the chain

reached_on : (p : Params) (word_of : WordId → ℕ) (s : LifeState) (xs ys : List LifeAct) → reached p word_of s (xs ++ ys) ≡ reached p word_of (reached p word_of s xs) ys
reached_on p word_of s [] ys = refl
reached_on p word_of s (x ∷ xs) ys = reached_on p word_of (life_step p word_of s x) xs ys

record AreAll (p : Params) (word_of : WordId → ℕ) (s : LifeState) (calls : List VaultCall) (steps : List (Shape × Fills)) (behind : RingHidden) : Type 0 where
  acts : List LifeAct
  is_life : IsLife p word_of s acts
  then : IsInLife p word_of behind (reached p word_of s acts)
  shown : AreShownBy p word_of s calls steps acts
  turn : (k : WordsKept) → k.drawn ≡ s.drawn → AllDrawNext p word_of s k acts

all : (p : Params) (word_of : WordId → ℕ) (s : LifeState) (h behind : RingHidden) (calls : List VaultCall) (steps : List (Shape × Fills)) → IsInLife p word_of h s → AreDrawn ring_kind p h calls steps behind
    → AreTapeWords word_of behind.generation behind.words → AreAll p word_of s calls steps behind
all p word_of s h behind [] [] here is tape = record { acts = []; is_life = tt; then = subst (λ (x : RingHidden). IsInLife p word_of x s) (sym is) here; shown = refl; turn = λ k so_far. tt }
all p word_of s h behind (call ∷ calls) (step ∷ steps) here (mid, draws, rest) tape =
    let one = one_call p word_of s h call step.1 mid here draws (tape_before word_of mid behind (all_on p mid behind calls steps rest) tape) in
    let more = all p word_of (reached p word_of s one.acts) mid behind calls steps one.then rest tape in
    record {
      acts = one.acts ++ more.acts;
      is_life = life_goes_on p word_of s one.acts more.acts one.is_life more.is_life;
      then = subst (λ (t : LifeState). IsInLife p word_of behind t) (sym (reached_on p word_of s one.acts more.acts)) more.then;
      shown = (one.acts, more.acts, refl, one.own, one.filled, more.shown);
      turn = λ k so_far. (
          let now = one.turn k so_far in
          next_on p word_of s k one.acts more.acts now (more.turn (words_behind p word_of s k one.acts) (drawn_same p word_of s k one.acts now so_far)));
    }
all p word_of s h behind [] (step ∷ steps) here none tape = absurd none
all p word_of s h behind (call ∷ calls) [] here none tape = absurd none

pub drawn_shown : DrawnIsShown
drawn_shown p word_of s h behind calls steps here drawn tape =
    let a = all p word_of s h behind calls steps here drawn tape in
    record {
      acts = a.acts;
      is_life = a.is_life;
      then = a.then;
      shown = a.shown;
      turn = a.turn;
      fresh = λ slot before some ranked life at. lives_are_fresh p word_of slot (before ++ a.acts) some ranked
          (life_goes_on p word_of (formatted_life slot) before a.acts life (subst (λ (t : LifeState). IsLife p word_of t a.acts) (sym at) a.is_life));
    }
