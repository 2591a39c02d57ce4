-- Behind the final lifts the stash has rows of just the keys that lie in no bucket.
use Rattle.std.specs.Prelude.{◌≡◌, ◌≢◌, ℕ, true, false, List, Option}
use Rattle.std.specs.declared.option.Option.TheVariants.{None, Some}
use Rattle.std.specs.FinMap as finite
use Rattle.std.proofs.Common.{refl, sym, ◌∙◌}
use Rattle.std.proofs.lemmas.Bool.{true≢false, false≢true}
use Rattle.ob_base.specs.declared.params.Params.{Params}
use Rattle.ob_end.specs.Lifts.{lifts_picked}
use Rattle.ob_end.specs.Renewals.{HasItsRows}
use Rattle.ob_recover.specs.Repeats.{RowsJoin}
use Rattle.ob_ring.specs.Filling.{HasJustStashRows}
use Rattle.ob_ring.specs.FlatTable.{FlatTable, FinalLifts, Row, Spot, InStash, In, after, in_stash, is_stash, spot_of}
use Rattle.ob_ring.specs.Ring.{Kept, StandsFor}
use Rattle.ob_ring.specs.Settling.{Rows}
use Rattle.ob_stand.proofs.KeyLaws.{picked_are_taken}
use Rattle.ob_stand.specs.Takes.{is_present}
use Rattle.ob_stand.specs.Values.{Values}
use Rattle.ob_stand.specs.Carries.{Carries, Slots}
use Rattle.ob_recover.specs.Fits.{IsPlannerFit}
use Rattle.ob_recover.proofs.JoinLaws.{carries_then, joined, map_then}

spot_is : (s : Spot) → is_stash s ≡ true → s ≡ InStash
spot_is InStash on = refl
spot_is (In u j) on = absurd (false≢true on)

lies_there : (r : Option Row) → in_stash r ≡ true → (is_present r ≡ true) × (spot_of r ≡ InStash)
lies_there None on = absurd (false≢true on)
lies_there (Some r) on = (refl, spot_is r.spot on)

there : (v : Option (List ℕ)) → is_present v ≡ true → v ≢ None
there None on e = absurd (false≢true on)
there (Some x) on e = absurd (cc)

absent : (v : Option (List ℕ)) → is_present v ≡ false → v ≡ None
absent None off = refl
absent (Some x) off = absurd (true≢false off)

-- a key that has a row lies in no bucket
has_lain : (r : Option Row) (o v : Option (List ℕ)) → o ≢ None → is_present r ≡ is_present v → (spot_of r ≡ InStash → o ≡ v) → ((u j : ℕ) → spot_of r ≡ In u j → o ≡ None) → in_stash r ≡ true
has_lain None o v some same held others = absurd (some (held refl ∙ absent v (sym same)))
has_lain (Some r) o v some same held others = by r.spot refl
  where
    by : (s : Spot) → r.spot ≡ s → is_stash s ≡ true
    by InStash e = refl
    by (In u j) e = absurd (some (others u j e))

-- a planner that carries a map has the rows of its stash, and no others
pub carried_rows : (p : Params) (t : FlatTable) (rows : Rows) (slots : Slots) (m : Values) → Carries p t rows slots m → HasJustStashRows t rows
carried_rows p t rows slots m c k = (
  (λ on. (let at : (is_present (t.rows k) ≡ true) × (spot_of (t.rows k) ≡ InStash) = lies_there (t.rows k) on in
      λ e. there (m k) (sym (c.keys k) ∙ at.0) (sym (c.held k at.1) ∙ e))),
  (λ some. has_lain (t.rows k) (finite.get rows k) (m k) some (c.keys k) (c.held k) (c.others k)),
)

pub has_its_rows : (ring lifted : Kept) (fit : IsPlannerFit ring) → StandsFor lifted (after ring.p fit.table FinalLifts) → RowsJoin (lifts_picked ring.p fit.table) (ring.stash).rows (lifted.stash).rows → HasItsRows lifted
has_its_rows ring lifted fit stands join =
    let t1 : FlatTable = after ring.p fit.table FinalLifts in
    let takes = picked_are_taken.lifts ring.p fit.table (fit.stands).orderly (fit.carries).low in
    let keeps = picked_are_taken.lifts_keys ring.p fit.table in
    let rows = joined _ (ring.stash).rows (lifted.stash).rows join in
    record {
      table = t1;
      stands = stands;
      rows = carried_rows ring.p t1 (lifted.stash).rows fit.slots (map_then ring.p fit.table t1 (ring.stash).rows (lifted.stash).rows fit.slots fit.map _ takes keeps fit.carries rows)
          (carries_then ring.p fit.table t1 (ring.stash).rows (lifted.stash).rows fit.slots fit.map _ takes keeps fit.carries rows);
    }
