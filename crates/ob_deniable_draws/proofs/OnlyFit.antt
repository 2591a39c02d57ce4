-- A batch draws only where its asks fit.
use Rattle.std.specs.Prelude.{◌≡◌, ◌<◌, List, [], ◌∷◌, ◌++◌, length}
use Rattle.std.proofs.Common.{arith, refl, subst, length-append}
use Rattle.ob_log.specs.Logs.{BatchRecord, RecordFits, RecordsFit, record_at}
use Rattle.ob_vault.specs.Hidden.{RingHidden}
use Rattle.ob_deniable_draws.specs.Fit.{AreAsksFit, OnlyFitAsksDraw}

last_record : (rs : List BatchRecord) (r : BatchRecord) → record_at (rs ++ r ∷ []) (length rs) ≡ r
last_record [] r = refl
last_record (x ∷ rs) r = last_record rs r

pub only_fit : OnlyFitAsksDraw
only_fit p h behind asks f (d, fit) =
    let rs : List BatchRecord = h.records ++ d.next ∷ [] in
    let fits : RecordsFit p rs = subst (λ (x : RingHidden). RecordsFit p x.records) d.behind_is fit in
    let low : length h.records < length rs = omega (arith, length-append h.records (d.next ∷ [])) in
    let last : RecordFits p (length h.records) d.next = subst (RecordFits p (length h.records)) (last_record h.records d.next) (fits.each (length h.records) low) in
    subst (AreAsksFit p) (d.is_next).asked (record { whole = last.asks_many; low = last.keys_low; apart = last.keys_apart })
