-- Every list of acts is a work's.
use Rattle.std.specs.Prelude.{◌≡◌, ℕ, ◌+◌, ◌≤◌, ◌==◌, cond, false, List, [], ◌∷◌}
use Rattle.std.proofs.Common.{arith, refl, ap, ◌∙◌}
use Rattle.std.proofs.lemmas.Bool.{eq-eqb, ne_eqb}
use Rattle.ob_recover.specs.Life.{LifeAct, Open, Append, ShowBatch, ShowLifts, End}
use Rattle.ob_deniable.specs.Works.{LifeWork, Opens, Logs, Shows, Lifts, Ends, VersionSlots, acts_of}
use Rattle.ob_deniable.specs.Telling.{LivesAreWorks}

record IsWorkOf (e : ℕ) (base : VersionSlots) (acts : List LifeAct) : Type 0 where
  work : List LifeWork
  slots : VersionSlots
  old : (v : ℕ) → v ≤ e → slots v ≡ base v
  are : acts_of e slots work ≡ acts

each : (e : ℕ) (base : VersionSlots) (acts : List LifeAct) → IsWorkOf e base acts
each e base [] = record { work = []; slots = base; old = λ v h. refl; are = refl }
each e base (Open g ∷ rest) = let r = each e base rest in record { work = Opens g ∷ r.work; slots = r.slots; old = r.old; are = ap (λ more. Open g ∷ more) r.are }
each e base (Append b ∷ rest) = let r = each e base rest in record { work = Logs b.asks b.first ∷ r.work; slots = r.slots; old = r.old; are = ap (λ more. Append b ∷ more) r.are }
each e base (ShowBatch ∷ rest) = let r = each e base rest in record { work = Shows ∷ r.work; slots = r.slots; old = r.old; are = ap (λ more. ShowBatch ∷ more) r.are }
each e base (ShowLifts ∷ rest) = let r = each e base rest in record { work = Lifts ∷ r.work; slots = r.slots; old = r.old; are = ap (λ more. ShowLifts ∷ more) r.are }
each e base (End ws n slot ∷ rest) =
    let with_end : VersionSlots = λ v. cond (v == e + 1) slot (base v) in
    let r = each (e + 1) with_end rest in
    let new : r.slots (e + 1) ≡ slot = r.old (e + 1) (omega arith) ∙ rw (eq-eqb (e + 1) (e + 1) refl) refl in
    record {
      work = Ends ws n ∷ r.work;
      slots = r.slots;
      old = λ v h. (let far : (v == e + 1) ≡ false = ne_eqb v (e + 1) (λ same. omega arith) in r.old v (omega arith) ∙ ap (λ b. cond b slot (base v)) far);
      are = λ i. End ws n (new i) ∷ r.are i;
    }

pub lives_are_works : LivesAreWorks
lives_are_works slot acts = let r = each 0 (λ v. slot) acts in (r.work, r.slots, r.old 0 (omega arith), r.are)
