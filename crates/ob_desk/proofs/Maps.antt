-- What a map has after operations, and after the transactions of an epoch.
use Rattle.std.proofs.Common.{◌≡◌, ℕ, zero, suc, Bool, true, false, cond, ◌==◌, if◌then◌else◌, List, [], ◌∷◌, Option, None, Some, option_map, option_and_then, unwrap_or, slice_get, refl, ap, ◌∙◌, nat_cmp}
use Rattle.std.specs.Option.{option_or}
use Rattle.std.specs.FinMap as map
use Rattle.ob_serial.specs.Serial.{Map, after_ops, after_op}
use Rattle.ob_order.specs.Works.{Work, is_going, version_in, newest, last_write}
use Rattle.ob_desk.specs.Replay.{map_after}
use Rattle.std.proofs.Common.{◌≡◌, ℕ, zero, suc, Bool, true, false, cond, ◌==◌, if◌then◌else◌, List, [], ◌∷◌, Option, None, Some, option_map, option_and_then, unwrap_or, slice_get, refl, ap, ◌∙◌, nat_cmp}
use Rattle.std.specs.Cmp.{nat_cmp_total, unsigned_tied}
use Rattle.std.specs.FinMap.{get-insert, get-remove}
use Rattle.ob_serial.specs.Serial.{Map, after_ops, after_op}
use Rattle.ob_order.specs.Works.{write_of, last_write}
use Rattle.ob_order.specs.Works.{write_of}
use Rattle.ob_base.specs.declared.op.Op.{Op}
use Rattle.ob_base.specs.declared.op.Op.TheVariants.{Get, Put, Del}
use Rattle.ob_order.specs.declared.answers.Version.{Version}

unwrap_or-cond : {A : Type 0} (b : Bool) (x d : A) → cond b x d ≡ unwrap_or (if b then Some x else None) d
unwrap_or-cond true x d = refl
unwrap_or-cond false x d = refl

-- what an operation leaves at a key
get-after_op : (m : Map nat_cmp) (o : Op ℕ) (k : ℕ) → map.get (after_op nat_cmp m o) k ≡ unwrap_or (write_of o k) (map.get m k)
get-after_op m (Get j r s) k = refl
get-after_op m (Put j v) k = get-insert nat_cmp_total m j v k ∙ ap (λ b. cond b (Some v) (map.get m k)) (unsigned_tied k j) ∙ unwrap_or-cond (k == j) (Some v) (map.get m k)
get-after_op m (Del j) k = get-remove nat_cmp_total m j k ∙ ap (λ b. cond b None (map.get m k)) (unsigned_tied k j) ∙ unwrap_or-cond (k == j) None (map.get m k)

unwrap_or-or : {A : Type 0} (a b : Option A) (d : A) → unwrap_or a (unwrap_or b d) ≡ unwrap_or (option_or a b) d
unwrap_or-or None b d = refl
unwrap_or-or (Some x) b d = refl

-- what operations leave at a key: what the last write of it set, else what was there
pub get-after : (m : Map nat_cmp) (os : List (Op ℕ)) (k : ℕ) → map.get (after_ops nat_cmp m os) k ≡ unwrap_or (last_write os k) (map.get m k)
get-after m [] k = refl
get-after m (o ∷ os) k = get-after (after_op nat_cmp m o) os k ∙ (ap (unwrap_or (last_write os k)) (get-after_op m o k) ∙ unwrap_or-or (last_write os k) (write_of o k) (map.get m k))

abbrev pub value_or : Option Version → Option (List ℕ) → Option (List ℕ)
value_or o d = unwrap_or (option_map (λ v. v.value) o) d

-- what the map that the first n transactions leave has at a key: the newest version, else what the base map has
pub get-map_after : (m : Map nat_cmp) (ws : List Work) (n k : ℕ) → map.get (map_after m ws n) k ≡ value_or (newest ws n k) (map.get m k)
get-map_after m ws zero k = refl
get-map_after m ws (suc n) k = step (slice_get ws n) (map_after m ws n) (newest ws n k) (get-map_after m ws n k)
  where
    written : (a : Option (Option (List ℕ))) (o : Option Version) (d : Option (List ℕ)) → unwrap_or a (value_or o d) ≡ value_or (option_or (option_map (λ v. record { source = suc n; value = v }) a) o) d
    written None o d = refl
    written (Some x) o d = refl

    by_fate : (b : Bool) (w : Work) (before : Map nat_cmp) (o : Option Version) → map.get before k ≡ value_or o (map.get m k)
        → map.get (if b then after_ops nat_cmp before w.ops else before) k ≡ value_or (option_or (option_map (λ v. record { source = suc n; value = v }) (if b then last_write w.ops k else None)) o) (map.get m k)
    by_fate true w before o e = get-after before w.ops k ∙ (ap (unwrap_or (last_write w.ops k)) e ∙ written (last_write w.ops k) o (map.get m k))
    by_fate false w before o e = e

    step : (w : Option Work) (before : Map nat_cmp) (o : Option Version) → map.get before k ≡ value_or o (map.get m k)
        → map.get (unwrap_or (option_map (λ w. if is_going w.fate then after_ops nat_cmp before w.ops else before) w) before) k ≡ value_or (option_or (option_map (λ v. record { source = suc n; value = v }) (option_and_then (λ w. version_in w k) w)) o) (map.get m k)
    step None before o e = e
    step (Some w) before o e = by_fate (is_going w.fate) w before o e
