-- The jobs read what the table's steps show.
use Rattle.std.specs.Prelude.{◌≡◌, ℕ, ◌+◌, ◌==◌, Bool, true, false, cond, List, [], ◌∷◌, ◌++◌, map, Option}
use Rattle.std.proofs.Common.{refl, sym, ap, ◌∙◌}
use Rattle.ob_base.specs.declared.params.Params.{Params}
use Rattle.ob_base.specs.Tree.{path}
use Rattle.ob_schedule.specs.Paths.{eviction_path}
use Rattle.ob_ring.specs.FlatTable.{FlatTable, Spot, spot_of, index_in, asked_row, fetch, leaf_shown, index_shown, mark_index, lift, lift_order, lift_shown, shown_numbered, reads, visit, visit_shown, visits_shown, place_shown, after_place, batch_shown, final_shown}
use Rattle.ob_ring.specs.Picked.{holder, key_shown, lift_picked, visit_picked, visits_picked, place_picked, batch_picked, final_picked}
use Rattle.ob_ring.specs.Jobs.{place_shown_at, place_picked_at, JobsReadPicks}
use Rattle.ob_ring.proofs.Appends.{map-both}

numbered_at : (u n : ℕ) (js : List ℕ) → map place_shown_at (shown_numbered u n js) ≡ map (λ j. (u, j)) js
numbered_at u n [] = refl
numbered_at u n (j ∷ js) = ap (λ (xs : List (ℕ × ℕ)). (u, j) ∷ xs) (numbered_at u (n + 1) js)

picked_at : (p : Params) (t : FlatTable) (u : ℕ) (js : List ℕ) → map place_picked_at (map (λ j. record { bucket = u; index = j; key = holder p t u j }) js) ≡ map (λ j. (u, j)) js
picked_at p t u [] = refl
picked_at p t u (j ∷ js) = ap (λ (xs : List (ℕ × ℕ)). (u, j) ∷ xs) (picked_at p t u js)

lift_at : (p : Params) (t : FlatTable) (u : ℕ) → map place_picked_at (lift_picked p t u) ≡ map place_shown_at (lift_shown p t u)
lift_at p t u = picked_at p t u (lift_order p t u) ∙ sym (numbered_at u (reads p t u) (lift_order p t u))

lift_case : (p : Params) (t : FlatTable) (u : ℕ) (b : Bool) → map place_picked_at (cond b (lift_picked p t u) []) ≡ map place_shown_at (cond b (lift_shown p t u) [])
lift_case p t u true = lift_at p t u
lift_case p t u false = refl

turn_case : (p : Params) (t : FlatTable) (u : ℕ) (b : Bool) → map place_picked_at (cond b [] (lift_picked p t u)) ≡ map place_shown_at (cond b [] (lift_shown p t u))
turn_case p t u true = refl
turn_case p t u false = lift_at p t u

visit_case : (p : Params) (t t1 : FlatTable) (u n j : ℕ) (key : Option ℕ) (b c : Bool) → map place_picked_at (cond b [] (record { bucket = u; index = j; key = key } ∷ cond c (lift_picked p t1 u) [])) ≡ map place_shown_at
    (cond b [] (record { bucket = u; number = n; index = j } ∷ cond c (lift_shown p t1 u) []))
visit_case p t t1 u n j key true c = refl
visit_case p t t1 u n j key false c = ap (λ (xs : List (ℕ × ℕ)). (u, j) ∷ xs) (lift_case p t1 u c)

visits_at : (p : Params) (t : FlatTable) (ask : Option ℕ) (own : Spot) (us : List ℕ) → map place_picked_at (visits_picked p t ask own us) ≡ map place_shown_at (visits_shown p t own us)
visits_at p t ask own [] = refl
visits_at p t ask own (u ∷ us) =
    map-both place_picked_at (visit_picked p t ask own u) (visits_picked p (visit p t own u) ask own us)
    ∙ (λ i. visit_case p t (mark_index t u (index_shown p t own u)) u (reads p t u) (index_shown p t own u) (key_shown ask (index_in u own)) (t.lifted u) (reads p t u + 1 == p.dummies) i ++ visits_at p (visit p t own u) ask own us i)
    ∙ sym (map-both place_shown_at (visit_shown p t own u) (visits_shown p (visit p t own u) own us))

batch_at : (p : Params) (t : FlatTable) (places : List (Option ℕ × ℕ)) → map place_picked_at (batch_picked p t places) ≡ map place_shown_at (batch_shown p t places)
batch_at p t [] = refl
batch_at p t (a ∷ rest) =
    map-both place_picked_at (place_picked p t a.0 a.1) (batch_picked p (after_place p t a.0 a.1) rest)
    ∙ (λ i. visits_at p (fetch t a.0 a.1) a.0 (spot_of (asked_row t a.0)) (path p (leaf_shown t a.0 a.1)) i ++ batch_at p (after_place p t a.0 a.1) rest i)
    ∙ sym (map-both place_shown_at (place_shown p t a.0 a.1) (batch_shown p (after_place p t a.0 a.1) rest))

final_at : (p : Params) (t : FlatTable) (us : List ℕ) → map place_picked_at (final_picked p t us) ≡ map place_shown_at (final_shown p t us)
final_at p t [] = refl
final_at p t (u ∷ us) =
    map-both place_picked_at (cond (t.lifted u) [] (lift_picked p t u)) (final_picked p (cond (t.lifted u) t (lift t u)) us)
    ∙ (λ i. turn_case p t u (t.lifted u) i ++ final_at p (cond (t.lifted u) t (lift t u)) us i)
    ∙ sym (map-both place_shown_at (cond (t.lifted u) [] (lift_shown p t u)) (final_shown p (cond (t.lifted u) t (lift t u)) us))

pub jobs_read_picks : JobsReadPicks
jobs_read_picks = record { batch = batch_at; lifts = λ p t. final_at p t (eviction_path p t.counter) }
