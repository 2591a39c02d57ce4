-- What calls draw of words, seals and epochs, counted.
use Rattle.std.specs.Prelude.{◌≡◌, ℕ, suc, ◌+◌, ◌*◌, ◌^◌, ◌<◌, ◌≤◌, List, [], ◌∷◌, length}
use Rattle.std.proofs.Common.{arith, refl, sym, ap, subst, ◌∙◌, length-append}
use Rattle.ob_base.specs.Layout.{checkpoint_cells, record_cells}
use Rattle.ob_base.specs.Tree.{width}
use Rattle.ob_base.specs.declared.params.Params.{Params}
use Rattle.ob_deniable_runs.specs.OtherCalls.{AreOtherCalls}
use Rattle.ob_end.specs.EndRuns.{lifted_many, words_for_end}
use Rattle.ob_schedule.specs.Schedule.{Fills}
use Rattle.ob_serial.specs.Vaults.{End, Fetch, VaultCall}
use Rattle.ob_vault.specs.Hidden.{RingHidden, table_hidden}
use Rattle.ob_vault.specs.KindShown.{AreDrawn}
use Rattle.ob_vault.specs.RingKind.{ring_kind}
use Rattle.ob_vault.specs.Shapes.{Shape}

-- a word for each place, without those of the slots that ends fill
abbrev pub words_least : Params → List VaultCall → ℕ
words_least p [] = 0
words_least p (Fetch asks ∷ calls) = p.places + words_least p calls
words_least p (End writes ∷ calls) = p.writes + words_least p calls

abbrev pub seals_least : Params → List VaultCall → ℕ
seals_least p [] = 0
seals_least p (Fetch asks ∷ calls) = record_cells p + seals_least p calls
seals_least p (End writes ∷ calls) = checkpoint_cells p + seals_least p calls

abbrev pub ends_in : List VaultCall → ℕ
ends_in [] = 0
ends_in (Fetch asks ∷ calls) = ends_in calls
ends_in (End writes ∷ calls) = suc (ends_in calls)

pub record AreCounted (p : Params) (h behind : RingHidden) (calls : List VaultCall) : Type 0 where
  pub sum : behind.seals + (words_least p calls + length h.words) ≡ h.seals + (seals_least p calls + length behind.words)
  pub words : length h.words ≤ 2 ^ 62 → length behind.words ≤ 2 ^ 62
  pub seals : h.seals ≤ 2 ^ 62 → behind.seals ≤ 2 ^ 62
  pub epoch : behind.epoch ≡ h.epoch + ends_in calls
  pub epochs : h.epoch < 2 ^ 62 → behind.epoch < 2 ^ 62
  pub generation : behind.generation ≡ h.generation

sum_up : (a l m sl wl x y z : ℕ) → a + (wl + (l + x)) ≡ (z + y) + (sl + m) → a + ((x + wl) + l) ≡ z + ((y + sl) + m)
sum_up a l m sl wl x y z e = omega arith

sum_ended : (a l m sl wl x y z r : ℕ) → a + (wl + (l + (x + r))) ≡ (z + (r + y)) + (sl + m) → a + ((x + wl) + l) ≡ z + ((y + sl) + m)
sum_ended a l m sl wl x y z r e = omega arith

pub are_counted : (p : Params) (h behind : RingHidden) (calls : List VaultCall) (steps : List (Shape × Fills)) → AreDrawn ring_kind p h calls steps behind → AreCounted p h behind calls
are_counted p h behind [] [] is = subst (λ (x : RingHidden). AreCounted p h x []) (sym is) (record {
  sum = omega arith;
  words = λ low. low;
  seals = λ low. low;
  epoch = omega arith;
  epochs = λ low. low;
  generation = refl;
})
are_counted p h behind (Fetch asks ∷ calls) (step ∷ steps) (mid, (d, fit), rest) =
    let c : AreCounted p mid behind calls = are_counted p mid behind calls steps rest in
    let words : length mid.words ≡ length h.words + p.places = ap (λ (x : RingHidden). length x.words) d.behind_is ∙ length-append h.words (d.next).words ∙ ap (λ (n : ℕ). length h.words + n) d.many in
    let seals : mid.seals ≡ h.seals + record_cells p = ap (λ (x : RingHidden). x.seals) d.behind_is in
    let epoch : mid.epoch ≡ h.epoch = ap (λ (x : RingHidden). x.epoch) d.behind_is in
    let few = d.few in
    let few_seals = d.few_seals in
    record {
      sum = sum_up behind.seals (length h.words) (length behind.words) (seals_least p calls) (words_least p calls) p.places (record_cells p) h.seals
          (ap (λ (n : ℕ). behind.seals + (words_least p calls + n)) (sym words) ∙ c.sum ∙ ap (λ (n : ℕ). n + (seals_least p calls + length behind.words)) seals);
      words = λ low. c.words (omega arith);
      seals = λ low. c.seals (omega arith);
      epoch = c.epoch ∙ ap (λ (n : ℕ). n + ends_in calls) epoch;
      epochs = λ low. c.epochs (omega arith);
      generation = c.generation ∙ ap (λ (x : RingHidden). x.generation) d.behind_is;
    }
are_counted p h behind (End writes ∷ calls) (step ∷ steps) (mid, d, rest) =
    let c : AreCounted p mid behind calls = are_counted p mid behind calls steps rest in
    let rows : ℕ = lifted_many p (table_hidden p h) * width p in
    let words : length mid.words ≡ length h.words + words_for_end p (table_hidden p h) = ap length d.grows ∙ length-append h.words d.words ∙ ap (λ (n : ℕ). length h.words + n) d.many in
    let few = d.few in
    let few_seals = d.few_seals in
    let next = d.epoch in
    let epochs = d.epochs in
    record {
      sum = sum_ended behind.seals (length h.words) (length behind.words) (seals_least p calls) (words_least p calls) p.writes (checkpoint_cells p) h.seals rows
          (ap (λ (n : ℕ). behind.seals + (words_least p calls + n)) (sym words) ∙ c.sum ∙ ap (λ (n : ℕ). n + (seals_least p calls + length behind.words)) d.sealed);
      words = λ low. c.words (omega (arith, words, few));
      seals = λ low. c.seals (omega (arith, d.sealed, few_seals));
      epoch = c.epoch ∙ (let e = next in omega arith);
      epochs = λ low. c.epochs (omega arith);
      generation = c.generation ∙ d.generation;
    }
are_counted p h behind [] (step ∷ steps) none = absurd none
are_counted p h behind (call ∷ calls) [] none = absurd none

-- ---- other calls of the same shapes

pub words_alike : (p : Params) (calls others : List VaultCall) → AreOtherCalls p calls others → words_least p calls ≡ words_least p others
words_alike p [] [] like = refl
words_alike p [] (other ∷ others) like = absurd like
words_alike p (call ∷ calls) [] like = absurd like
words_alike p (Fetch asks ∷ calls) (Fetch others ∷ more) like = ap (λ (n : ℕ). p.places + n) (words_alike p calls more like.1)
words_alike p (End writes ∷ calls) (End others ∷ more) like = ap (λ (n : ℕ). p.writes + n) (words_alike p calls more like.1)
words_alike p (Fetch asks ∷ calls) (End others ∷ more) like = absurd like.0
words_alike p (End writes ∷ calls) (Fetch others ∷ more) like = absurd like.0

pub seals_alike : (p : Params) (calls others : List VaultCall) → AreOtherCalls p calls others → seals_least p calls ≡ seals_least p others
seals_alike p [] [] like = refl
seals_alike p [] (other ∷ others) like = absurd like
seals_alike p (call ∷ calls) [] like = absurd like
seals_alike p (Fetch asks ∷ calls) (Fetch others ∷ more) like = ap (λ (n : ℕ). record_cells p + n) (seals_alike p calls more like.1)
seals_alike p (End writes ∷ calls) (End others ∷ more) like = ap (λ (n : ℕ). checkpoint_cells p + n) (seals_alike p calls more like.1)
seals_alike p (Fetch asks ∷ calls) (End others ∷ more) like = absurd like.0
seals_alike p (End writes ∷ calls) (Fetch others ∷ more) like = absurd like.0

pub ends_alike : (p : Params) (calls others : List VaultCall) → AreOtherCalls p calls others → ends_in calls ≡ ends_in others
ends_alike p [] [] like = refl
ends_alike p [] (other ∷ others) like = absurd like
ends_alike p (call ∷ calls) [] like = absurd like
ends_alike p (Fetch asks ∷ calls) (Fetch others ∷ more) like = ends_alike p calls more like.1
ends_alike p (End writes ∷ calls) (End others ∷ more) like = ap suc (ends_alike p calls more like.1)
ends_alike p (Fetch asks ∷ calls) (End others ∷ more) like = absurd like.0
ends_alike p (End writes ∷ calls) (Fetch others ∷ more) like = absurd like.0
