-- An abort keeps the Gets of those that go on.
use Rattle.std.proofs.Common.{◌≡◌, ℕ, suc, ◌<◌, Bool, true, false, not, ◌&&◌, List, take, length, refl, sym, ap, ◌∙◌, subst, arith, nat_cmp}
use Rattle.std.proofs.lemmas.Bool.{false≢true}
use Rattle.std.proofs.lemmas.Option.{slice_get_within}
use Rattle.ob_serial.specs.Serial.{Map}
use Rattle.ob_order.specs.Works.{wait_for, Work, edit, goes_on, newest, source_of, last_write, end_work, SourcesRise, aborted}
use Rattle.ob_order.proofs.Newest.{by_option, newest_found}
use Rattle.ob_desk.proofs.Sees.{Reads, sees_itself, sees_other, from_answer, reads_thinned}
use Rattle.ob_order.proofs.Falls.{fallen_waits, goes_on-edit, fallen_aborted, fallen_ended, unbroken_cascade, thinned_from_fallen, went_on_before, length-aborted}

pub rises_from_reads : (m : Map nat_cmp) (ws : List Work) → Reads m ws → SourcesRise ws
rises_from_reads m ws h = record {
  at_each = λ n w there going i k r s got.
      let is = h.at_each n w there going i k r s got in
      by_option (last_write (take i w.ops) k)
      (λ none.
      let from = from_answer m (newest ws n k) k s r (sym (sees_other m ws n (take i w.ops) k none) ∙ is) in
      by_option (newest ws n k)
      (λ base. let zero_is : 0 ≡ s = ap source_of (sym base) ∙ from in omega arith)
      (λ v found. let low = (newest_found ws n k v found).at_or_below in let that : v.source ≡ s = ap source_of (sym found) ∙ from in omega arith))
      (λ x own. let that : suc n ≡ s = ap (λ q. q.source) (sym (sees_itself m ws n (take i w.ops) k x own) ∙ is) in omega arith);
}

-- an abort keeps the Gets of those that are left
pub reads_aborted : (m : Map nat_cmp) (ws : List Work) (t : ℕ) → Reads m ws → Reads m (aborted ws t)
reads_aborted m ws t h =
    let vs = aborted ws t in
    let fallen = fallen_aborted ws t in
    let unbroken = unbroken_cascade ws (edit end_work ws t) (length ws) (rises_from_reads m ws h) (fallen_ended ws t) in
    reads_thinned m ws vs h (thinned_from_fallen ws vs fallen) (went_on_before ws vs fallen) (λ n w there going i k r s got went.
    still (goes_on ws s) (goes_on vs s) went (unbroken.at_each n w (subst (λ q. n < q) (length-aborted ws t) (slice_get_within vs n w there)) there going i k r s got))
  where
    still : (b c : Bool) → b ≡ true → (b && not c) ≡ false → c ≡ true
    still b true e f = refl
    still true false e f = absurd (false≢true (sym f))
    still false false e f = absurd (false≢true e)

-- a get that has to wait changes none
pub reads_waits : (m : Map nat_cmp) (ws : List Work) (t k : ℕ) → Reads m ws → Reads m (edit (wait_for k) ws t)
reads_waits m ws t k h =
    let vs = edit (wait_for k) ws t in
    reads_thinned m ws vs h (thinned_from_fallen ws vs (fallen_waits ws t k)) (went_on_before ws vs (fallen_waits ws t k)) (λ n w there going i j r s got went.
    goes_on-edit (wait_for k) ws t s (λ v. refl) ∙ went)
