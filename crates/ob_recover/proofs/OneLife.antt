-- A life with a crash, computed: the second run repeats the first batch, and its epoch ends.
use Rattle.std.specs.Prelude.{◌≡◌, ℕ, List, [], ◌∷◌, map}
use Rattle.std.specs.declared.option.Option.TheVariants.{None, Some}
use Rattle.std.proofs.Common.{refl, arith}
use Rattle.ob_base.specs.Tree.{below}
use Rattle.ob_tables.specs.Rank.{IsRanking}
use Rattle.ob_ring.specs.FlatTable.{In}
use Rattle.ob_recover.specs.Life.{WordId, LabelFill, LifeAct, Open, Append, ShowBatch, ShowLifts, End, IsLife, life_labels, formatted_life, reached}
use Rattle.ob_ring.proofs.Rows.{p0}

abbrev zeros : WordId → ℕ
zeros w = 0

abbrev itself : ℕ → ℕ → ℕ
itself u j = j

itself_ranks : (n : ℕ) → IsRanking n (λ j. j)
itself_ranks n = record { within = λ j h. h; apart = λ i j h k e. e; onto = λ s h. (s, h, refl) }

abbrev acts : List LifeAct
acts =
    Open 2 ∷ Append (record { asks = None ∷ None ∷ []; first = record { generation = 2; place = 0 } }) ∷ ShowBatch
    ∷ Open 3 ∷ ShowBatch ∷ Append (record { asks = Some 5 ∷ None ∷ []; first = record { generation = 3; place = 0 } }) ∷ ShowBatch ∷ ShowLifts
    ∷ End ((5, Some (record { generation = 3; place = 2 })) ∷ []) 29 itself ∷ []

is_life : IsLife p0 zeros (formatted_life itself) acts
is_life = (omega arith, ((omega arith, refl, omega arith), (omega arith, (omega arith, (omega arith, ((omega arith, refl, omega arith), (omega arith, ((refl, refl), ((refl, refl, (record { generation = 3; place = 2 }, refl, refl, omega arith, omega arith), λ u up. itself_ranks 5), tt)))))))))

five_in_1 : (reached p0 zeros (formatted_life itself) acts).content.table.rows 5 ≡ Some (record { leaf = 0; spot = In 3 0 })
five_in_1 = refl

-- behind the end each bucket that it filled anew lies in its other place
lie : map (reached p0 zeros (formatted_life itself) acts).content.home (below 7) ≡ 1 ∷ 1 ∷ 1 ∷ 1 ∷ 0 ∷ 1 ∷ 0 ∷ []
lie = refl

abbrev names : List LabelFill → List (ℕ × ℕ × ℕ)
names ls = map (λ l. (l.epoch, l.batch, l.place)) ls

labels : names (life_labels p0 zeros (formatted_life itself) acts) ≡ (1, 0, 0) ∷ (1, 0, 1) ∷ (1, 0, 0) ∷ (1, 0, 1) ∷ (1, 1, 0) ∷ (1, 1, 1) ∷ []
labels = refl
