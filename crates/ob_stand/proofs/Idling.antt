-- An end that changes nothing.
use Rattle.std.specs.Prelude.{◌≡◌, ℕ, ◌<◌, ◌≤◌, ◌==◌, Bool, true, false, not, ◌&&◌, List, [], ◌∷◌, map, replicate, take, slice_index, slice_index_or, length, Option}
use Rattle.std.specs.declared.option.Option.TheVariants.{None, Some}
use Rattle.std.specs.FinMap as finite
use Rattle.std.specs.Ordering.{nat_cmp}
use Rattle.std.proofs.Common.{zero, suc, arith, refl, sym, ap, ◌∙◌, subst, inl}
use Rattle.std.proofs.lemmas.Bool.{true≢false, ne_eqb}
use Rattle.ob_base.specs.Tree.{buckets}
use Rattle.ob_tables.specs.Version as bucket
use Rattle.ob_tables.specs.Version.{Version, IsWhole, key_at, used_at}
use Rattle.ob_tables.specs.Buckets.{Buckets, version_at}
use Rattle.ob_schedule.specs.Paths.{is_one_of}
use Rattle.ob_tables.specs.Kept.{entry_at}
use Rattle.ob_ring.specs.Arrays.{AreWhole, IsTableOf, arrays_of, leaf_of_entry, rest_of}
use Rattle.ob_ring.specs.Filling.{AreSealedAnew, IsSealedAnew, base_of, words_of}
use Rattle.ob_ring.specs.FlatTable.{FlatTable, Refill, refill_order, stash_size}
use Rattle.ob_ring.specs.Laws.{IsOrderly}
use Rattle.ob_ring.specs.Plain.{index_with, key_of_index, plain_for}
use Rattle.ob_ring.specs.Ring.{IsRing, empty_table}
use Rattle.ob_ring.proofs.Rows.{p0}
use Rattle.ob_ring.proofs.TableLaws.{steps_keep_order}
use Rattle.ob_stand.specs.Values.{Values}
use Rattle.ob_stand.specs.Epochs.{IsEpoch, IsMet, Read, after_epoch, before_refill}
use Rattle.ob_stand.proofs.Meeting.{epochs_are_met}
use Rattle.ob_stand.proofs.Refilling.{plains_are_spelled}
use Rattle.ob_stand.specs.Calls.{AreSlotsWritten, RefillsRing}
use Rattle.ob_stand.specs.Counts.{IsEndPublic, public_of}
use Rattle.ob_stand.specs.EpochEnds.{IsNext, IsRunFrom}
use Rattle.ob_stand.specs.Idle.{Idled, idle_lifted, idle_order, idle_ring, idle_run, idle_versions, no_rows}
use Rattle.ob_stand.specs.Plans.{AreAllWhole}
use Rattle.ob_stand.specs.ContentSamples.{formatted, slots}
use Rattle.ob_stand.specs.Table.{flat_of, lying_place, row_for}
use Rattle.ob_stand.specs.Valued.{content_with}
use Rattle.ob_stand.proofs.Counts.{opening_counts}
use Rattle.ob_stand.proofs.Ending.{ends_follow, orderly_before}
use Rattle.ob_stand.proofs.Numbers.{renewed_fit}
use Rattle.ob_stand.proofs.Reading.{tables_are_read}
use Rattle.ob_stand.proofs.ContentSampling.{all_unused, end_obeys, format_obeys, formatted_key, formatted_known, formatted_obeys, formatted_valued, formatted_version, no_entry, none_some, two_none}
use Rattle.ob_stand.proofs.Standing.{contents_carry}

-- ---- the content after the format stands for the empty table

formatted_mark : (u j : ℕ) → used_at (version_at formatted.versions u) j ≡ false
formatted_mark zero j = all_unused j
formatted_mark (suc zero) j = all_unused j
formatted_mark (suc (suc zero)) j = all_unused j
formatted_mark (suc (suc (suc zero))) j = all_unused j
formatted_mark (suc (suc (suc (suc zero)))) j = all_unused j
formatted_mark (suc (suc (suc (suc (suc zero))))) j = all_unused j
formatted_mark (suc (suc (suc (suc (suc (suc zero)))))) j = all_unused j
formatted_mark (suc (suc (suc (suc (suc (suc (suc u))))))) j = refl

flat_empty : flat_of p0 formatted ≡ empty_table
flat_empty i = record {
  rows = λ k. row_for (no_entry 8 k i) (lying_place p0 formatted.versions k);
  used = λ u j. formatted_mark u j i;
  lifted = λ u. false;
  counter = 0;
}

no_leaf : (k : ℕ) → leaf_of_entry (entry_at formatted.book k) ≡ None
no_leaf k = ap leaf_of_entry (no_entry 8 k)

-- ---- the buckets after the refill

idle_key : (u j : ℕ) → key_at (version_at idle_versions u) j ≡ None
idle_key zero j = two_none j
idle_key (suc zero) j = two_none j
idle_key (suc (suc zero)) j = two_none j
idle_key (suc (suc (suc zero))) j = two_none j
idle_key (suc (suc (suc (suc zero)))) j = two_none j
idle_key (suc (suc (suc (suc (suc zero))))) j = two_none j
idle_key (suc (suc (suc (suc (suc (suc zero)))))) j = two_none j
idle_key (suc (suc (suc (suc (suc (suc (suc u))))))) j = refl

idle_mark : (u j : ℕ) → used_at (version_at idle_versions u) j ≡ false
idle_mark zero j = all_unused j
idle_mark (suc zero) j = all_unused j
idle_mark (suc (suc zero)) j = all_unused j
idle_mark (suc (suc (suc zero))) j = all_unused j
idle_mark (suc (suc (suc (suc zero)))) j = all_unused j
idle_mark (suc (suc (suc (suc (suc zero))))) j = all_unused j
idle_mark (suc (suc (suc (suc (suc (suc zero)))))) j = all_unused j
idle_mark (suc (suc (suc (suc (suc (suc (suc u))))))) j = refl

idle_version : (u : ℕ) → u < 7 → bucket.VersionObeys p0 (version_at idle_versions u)
idle_version zero low = end_obeys 20 (None ∷ None ∷ []) refl
idle_version (suc zero) low = end_obeys 10 (None ∷ None ∷ []) refl
idle_version (suc (suc zero)) low = end_obeys 15 (None ∷ None ∷ []) refl
idle_version (suc (suc (suc zero))) low = end_obeys 0 (None ∷ None ∷ []) refl
idle_version (suc (suc (suc (suc zero)))) low = format_obeys 4
idle_version (suc (suc (suc (suc (suc zero))))) low = end_obeys 5 (None ∷ None ∷ []) refl
idle_version (suc (suc (suc (suc (suc (suc zero)))))) low = format_obeys 6
idle_version (suc (suc (suc (suc (suc (suc (suc u))))))) low = absurd (omega arith)

idle_anew : AreSealedAnew p0 idle_run.before idle_run.filled idle_run.words idle_run.first 5
idle_anew = record { anew = anew; others = others }
  where
    anew : (i : ℕ) → i < 5 → IsSealedAnew (version_at formatted.versions (slice_index idle_order i)) (version_at idle_versions (slice_index idle_order i)) 2 (base_of p0 (2, 0) i) (words_of p0 idle_run.words i)
    anew zero low = record { home = refl; under = refl; from = refl; ranks = refl }
    anew (suc zero) low = record { home = refl; under = refl; from = refl; ranks = refl }
    anew (suc (suc zero)) low = record { home = refl; under = refl; from = refl; ranks = refl }
    anew (suc (suc (suc zero))) low = record { home = refl; under = refl; from = refl; ranks = refl }
    anew (suc (suc (suc (suc zero)))) low = record { home = refl; under = refl; from = refl; ranks = refl }
    anew (suc (suc (suc (suc (suc i))))) low = absurd (omega arith)

    others : (u : ℕ) → is_one_of (take 5 idle_order) u ≡ false → version_at idle_versions u ≡ version_at formatted.versions u
    others zero off = absurd (true≢false off)
    others (suc zero) off = absurd (true≢false off)
    others (suc (suc zero)) off = absurd (true≢false off)
    others (suc (suc (suc zero))) off = absurd (true≢false off)
    others (suc (suc (suc (suc zero)))) off = refl
    others (suc (suc (suc (suc (suc zero))))) off = absurd (true≢false off)
    others (suc (suc (suc (suc (suc (suc zero)))))) off = refl
    others (suc (suc (suc (suc (suc (suc (suc u))))))) off = refl

-- ---- the table before and after the refill

past_lifted : (v : ℕ) → 7 ≤ v → (before_refill p0 empty_table [] []).lifted v ≡ false
past_lifted v high = rw (ne_eqb v 5 (λ e. omega arith), ne_eqb v 2 (λ e. omega arith), ne_eqb v 3 (λ e. omega arith), ne_eqb v 1 (λ e. omega arith), ne_eqb v 0 (λ e. omega arith)) refl

lifted_before : (u : ℕ) → (before_refill p0 empty_table [] []).lifted u ≡ slice_index_or idle_lifted u false
lifted_before zero = refl
lifted_before (suc zero) = refl
lifted_before (suc (suc zero)) = refl
lifted_before (suc (suc (suc zero))) = refl
lifted_before (suc (suc (suc (suc zero)))) = refl
lifted_before (suc (suc (suc (suc (suc zero))))) = refl
lifted_before (suc (suc (suc (suc (suc (suc zero)))))) = refl
lifted_before (suc (suc (suc (suc (suc (suc (suc u))))))) = past_lifted (suc (suc (suc (suc (suc (suc (suc u))))))) (omega arith)

five_off : (a b c d e : Bool) → (a && (b && (c && (d && (e && false))))) ≡ false
five_off false b c d e = refl
five_off true false c d e = refl
five_off true true false d e = refl
five_off true true true false e = refl
five_off true true true true false = refl
five_off true true true true true = refl

lifted_after : (u : ℕ) → (after_epoch p0 empty_table [] []).lifted u ≡ slice_index_or (replicate 7 false) u false
lifted_after zero = refl
lifted_after (suc zero) = refl
lifted_after (suc (suc zero)) = refl
lifted_after (suc (suc (suc zero))) = refl
lifted_after (suc (suc (suc (suc zero)))) = refl
lifted_after (suc (suc (suc (suc (suc zero))))) = refl
lifted_after (suc (suc (suc (suc (suc (suc zero)))))) = refl
lifted_after (suc (suc (suc (suc (suc (suc (suc u))))))) = past (suc (suc (suc (suc (suc (suc (suc u))))))) (omega arith)
  where
    past : (v : ℕ) → 7 ≤ v → (after_epoch p0 empty_table [] []).lifted v ≡ false
    past v high = ap (λ (b : Bool). not (v == 0) && (not (v == 2) && (not (v == 1) && (not (v == 5) && (not (v == 3) && b))))) (past_lifted v high)
        ∙ five_off (not (v == 0)) (not (v == 2)) (not (v == 1)) (not (v == 5)) (not (v == 3))

table_before : IsTableOf p0 (arrays_of idle_run.before (rest_of formatted.book 2)) (before_refill p0 empty_table [] [])
table_before = record {
  keys_low = λ k x e. absurd (none_some (leaf_of_entry (entry_at formatted.book k)) x (no_leaf k) e);
  leaves_are = λ k. sym (no_leaf k);
  spots_are = λ k u j. ((λ e. absurd (cc)), (λ e. absurd (none_some (key_at (version_at formatted.versions u) j) k (formatted_key u j) e)));
  used_is = λ u j. sym (formatted_mark u j);
  lifted_is = lifted_before;
  counter_is = refl;
}

table_after : IsTableOf p0 (arrays_of idle_run.filled (rest_of formatted.book 2)) (after_epoch p0 empty_table [] [])
table_after = record {
  keys_low = λ k x e. absurd (none_some (leaf_of_entry (entry_at formatted.book k)) x (no_leaf k) e);
  leaves_are = λ k. sym (no_leaf k);
  spots_are = λ k u j. ((λ e. absurd (cc)), (λ e. absurd (none_some (key_at (version_at idle_versions u) j) k (idle_key u j) e)));
  used_is = λ u j. five_off (not (u == 0)) (not (u == 2)) (not (u == 1)) (not (u == 5)) (not (u == 3)) ∙ sym (idle_mark u j);
  lifted_is = lifted_after;
  counter_is = refl;
}

idle_whole_before : AreWhole p0 idle_run.before
unfolding buckets
idle_whole_before = record { many = refl; marks = refl; slots = λ u low. ((formatted_version u low).0).slots }

idle_whole : AreWhole p0 idle_run.filled
unfolding buckets
idle_whole = record { many = refl; marks = refl; slots = λ u low. (idle_version u low).slots }

idle_run_from : IsRunFrom p0 idle_run formatted formatted.book 2 [] []
unfolding buckets
idle_run_from = record {
  began = refl;
  seals = record { homes = λ u. refl; generations = λ u. refl; bases = λ u. refl; ranks = λ u. refl; order = refl };
  table_before = subst (λ (t : FlatTable). IsTableOf p0 (arrays_of idle_run.before (rest_of formatted.book 2)) (before_refill p0 t [] [])) (sym flat_empty) table_before;
  listed = subst (λ (t : FlatTable). idle_order ≡ refill_order p0 (before_refill p0 t [] [])) (sym flat_empty) refl;
  anew = idle_anew;
  table = subst (λ (t : FlatTable). IsTableOf p0 (arrays_of idle_run.filled (rest_of formatted.book 2)) (after_epoch p0 t [] [])) (sym flat_empty) table_after;
  whole_before = idle_whole_before;
  whole = idle_whole;
  entries = λ k e at. inl at;
  many = refl;
  low = omega arith;
  room = subst (λ (t : FlatTable). stash_size p0 (after_epoch p0 t [] []) ≤ 8) (sym flat_empty) (omega arith);
}

-- ---- what follows

no_batches : (bs : List Read) → map (λ b. b.0) bs ≡ [] → bs ≡ []
no_batches [] e = refl
no_batches (b ∷ bs) e = absurd (cc)

abbrev nothing : Values
nothing k = None

idle_met : IsMet p0 (flat_of p0 formatted) finite.empty slots [] []
idle_met = epochs_are_met p0 (flat_of p0 formatted) finite.empty slots nothing [] [] (tables_are_read p0 formatted formatted_obeys).orderly (contents_carry p0 formatted slots nothing formatted_obeys formatted_valued) tt

idle_epoch : IsEpoch p0 (flat_of p0 formatted) finite.empty idle_met.rows_then slots idle_met.slots_then [] idle_met.jobs []
idle_epoch = subst (λ (bs : List Read). IsEpoch p0 (flat_of p0 formatted) finite.empty idle_met.rows_then slots idle_met.slots_then bs idle_met.jobs []) (no_batches idle_met.batches idle_met.places) idle_met.epoch

-- ---- the planner's ring

idle_rules : (s : Buckets) → AreWhole p0 s → IsRing (idle_ring p0 s)
idle_rules s whole = record {
  book = record { many = refl; leaves = λ k e at. absurd (none_some (entry_at formatted.book k) e (no_entry 8 k) at) };
  metas = whole;
  counter = omega arith;
  stash_low = λ k some. absurd (some (finite.get-empty nat_cmp k));
  room = omega arith;
}

whole_of : (v : Version) → bucket.VersionObeys p0 v → IsWhole v
whole_of v o =
    let keys : length v.keys ≡ 2 = (o.slots).keys in
    let ranks : length v.ranks ≡ 5 = (o.slots).ranks in
    record { home = o.home; keys = omega arith; used = (o.slots).used ∙ sym ranks; ranks = o.ranks }

idle_all_whole : AreAllWhole p0 idle_run.before
unfolding buckets
idle_all_whole u low = whole_of (version_at formatted.versions u) (formatted_version u low).0

orderly_then : IsOrderly p0 (before_refill p0 (flat_of p0 formatted) [] [])
orderly_then = orderly_before p0 (flat_of p0 formatted) [] [] (tables_are_read p0 formatted formatted_obeys).orderly

idle_refill : RefillsRing (idle_ring p0 idle_run.before) (idle_ring p0 idle_run.filled) idle_run.words idle_run.first (before_refill p0 (flat_of p0 formatted) [] [])
idle_refill = record {
  kept = refl;
  rules = idle_rules idle_run.before idle_whole_before;
  rules_then = idle_rules idle_run.filled idle_whole;
  whole = idle_all_whole;
  listed = refl;
  order = refl;
  anew = idle_anew;
  before = record { orderly = orderly_then; arrays = idle_run_from.table_before };
  refilled = record { orderly = steps_keep_order p0 (before_refill p0 (flat_of p0 formatted) [] []) Refill orderly_then; arrays = idle_run_from.table };
}

keyless : (u : ℕ) (o : Option ℕ) → key_of_index (version_at idle_versions u) o ≡ None
keyless u None = refl
keyless u (Some j) = idle_key u j

idle_cells : AreSlotsWritten (idle_ring p0 idle_run.filled) no_rows no_rows
idle_cells = record {
  anew = λ u s on low. sym (ap (plain_for finite.empty) (keyless u (index_with (version_at idle_versions u) s)) ∙ plains_are_spelled.none finite.empty);
  same = λ u s off low within. refl;
}

idle_next : IsNext p0 formatted (content_with idle_run.filled formatted.book idle_met.rows_then 2) idle_met.slots_then nothing nothing 2 idle_order
idle_next = ends_follow p0 idle_run formatted slots idle_met.slots_then nothing [] idle_met.jobs [] formatted.book idle_met.rows_then 2
    formatted_obeys (renewed_fit.later formatted 1 2 (omega arith) formatted_known) (omega arith) formatted_valued idle_epoch idle_run_from

idle_public : (gates : ℕ → Bool) → IsEndPublic p0 (public_of formatted 0 gates) (flat_of p0 formatted) [] idle_run.before idle_run.filled idle_run.words idle_run.first (content_with idle_run.filled formatted.book idle_met.rows_then 2)
idle_public gates = record {
  orderly = (tables_are_read p0 formatted formatted_obeys).orderly;
  counted = opening_counts p0 formatted 0 gates formatted_obeys;
  counter = refl;
  homes = λ u. refl;
  listed = idle_run_from.listed;
  anew = idle_anew;
  whole = idle_whole;
  versions = refl;
  obeys = idle_next.obeys;
  table = idle_run_from.table;
}

pub idled : Idled
idled = record {
  p = p0;
  numbers = refl;
  run = idle_run_from;
  rows_then = idle_met.rows_then;
  slots_then = idle_met.slots_then;
  next = idle_next;
  public = idle_public;
  ring = idle_refill;
  cells = idle_cells;
}
