-- From one checkpoint's content to the next.
use Rattle.ob_stand.specs.Table.{flat_of}
use Rattle.ob_stand.specs.Valued.{ContentsFollow}
use Rattle.ob_stand.specs.Epochs.{EpochFollows, after_epoch}
use Rattle.ob_stand.proofs.Epochs.{epochs_follow}
use Rattle.ob_stand.proofs.Reading.{tables_are_read}
use Rattle.ob_stand.proofs.Standing.{contents_carry, tables_obey}

pub contents_follow : ContentsFollow
contents_follow p c slots slots' m bs js ws s book rows' counter o v e is f =
    let a : EpochFollows p (flat_of p c) rows' slots' m bs js ws = epochs_follow p (flat_of p c) c.rows rows' slots slots' m bs js ws (tables_are_read p c o).orderly (contents_carry p c slots m o v) e in
    tables_obey p s book rows' counter (after_epoch p (flat_of p c) bs ws) slots' _ a.orderly is a.carries f
