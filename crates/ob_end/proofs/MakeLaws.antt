-- What is made before anything is written: answers, words and notes.
use Rattle.std.specs.Prelude.{◌≡◌, ◌⊎◌, ℕ, zero, suc, ◌+◌, ◌-◌, ◌*◌, Bool, filter, ◌<◌, ◌≤◌, ◌^◌, List, take, length, Option, Result, Ok, Err, IfErr, OnOk}
use Rattle.std.specs.List.{range_with_len}
use Rattle.std.proofs.Common.{arith, length-append, refl, sym, ap, ◌∙◌, subst, inl, inr, ⊎_elim}
use Rattle.std.proofs.lemmas.Bool.{cases_lt}
use Rattle.std.proofs.lemmas.List.Sums.{count_by-le-length, length-filter}
use Rattle.std.proofs.lemmas.Nat.{pow_pos}
use Rattle.std.proofs.Math.Nat.{mul-le-mul_right, two-pow-succ}
use Rattle.ob_base.specs.declared.fault.Fault.{Fault}
use Rattle.ob_base.specs.declared.fault.Fault.TheVariants as fault
use Rattle.ob_base.specs.declared.params.Params.{Params}
use Rattle.ob_base.specs.declared.value.Write.{Write}
use Rattle.ob_base.specs.Layout.{checkpoint_cells}
use Rattle.ob_base.specs.Tree.{buckets, width}
use Rattle.ob_tables.specs.Buckets.{is_lifted}
use Rattle.ob_tables.specs.Version.{Version}
use Rattle.ob_end.specs.Lifts.{IsUndamaged, LiftsAnswer}
use Rattle.ob_end.specs.Renewals.{RenewAnswers, end_seals, end_words, refill_words, renewed_writes, table_behind_writes}
use Rattle.ob_stand.proofs.Calling.{calls_join}
use Rattle.ob_fetch.specs.Fetches.{DrawsWords}
use Rattle.ob_tables.specs.Content.{Rows}
use Rattle.ob_recover.specs.Repeats.{BatchIsShown, BatchTells, IsRepeatFault}
use Rattle.ob_ring.specs.FlatTable.{FlatTable, FinalLifts, Refill, Writes, after, refill_order, stash_size}
use Rattle.ob_ring.specs.Ring.{IsListed, Kept, StandsFor}
use Rattle.ob_ring.specs.Writing.{leaf_writes, writes_of}
use Rattle.ob_schedule.specs.Paths.{by_falling_level}
use Rattle.ob_seal.specs.declared.keys.Keys.{Keys}
use Rattle.ob_store.specs.Calls.{IsStoreFault, Serves}
use Rattle.ob_store.specs.Disk.{Disk, Image}
use Rattle.ob_store.specs.Lines.{Trace}
use Rattle.ob_store.specs.declared.event.Event.{Event}
use Rattle.ob_store.specs.declared.watch.Note.{Note}
use Rattle.ob_store.proofs.Serving.{if_ok}
use Rattle.ob_tables.specs.declared.entry.Entry.{Entry}
use Rattle.ob_end.specs.EndRuns.{HasWords, IsMakeFault, MakeAnswers, MakeDamage, MakeDraws, MakeTells, end_writes, lifted_many, rows_ended, seals_for_end, words_for_end}

-- ---- as the table says it

module _ (p : Params) (t : FlatTable) (lifted : Kept) (same : lifted.p ≡ p) where
  pub writes_are : (writes : List Write) (words : List ℕ) (g drawn : ℕ) → renewed_writes lifted writes (take (lifted.p).writes words) g drawn ≡ end_writes p writes words g drawn
  writes_are writes words g drawn = ap (λ (q : Params). writes_of q writes (take q.writes words) (g, drawn) (length writes)) same

  pub rows_are : (ws : List (Write × Entry)) → stash_size lifted.p (after lifted.p (table_behind_writes lifted ws (after p t FinalLifts)) Refill) ≡ rows_ended p t ws
  rows_are ws = ap (λ (q : Params). stash_size q (after q (after q (after p t FinalLifts) (Writes (leaf_writes ws))) Refill)) same

  module _ (stands : StandsFor lifted (after p t FinalLifts)) (listed : IsListed lifted) where
    order_is : (lifted.metas).order ≡ refill_order p (after p t FinalLifts)
    order_is = calls_join.listed lifted (after p t FinalLifts) stands listed ∙ ap (λ (q : Params). refill_order q (after p t FinalLifts)) same

    pub many_are : length (lifted.metas).order ≡ lifted_many p t
    many_are = ap (λ (us : List ℕ). length us) order_is

    pub words_are : end_words lifted ≡ words_for_end p t
    words_are = ap (λ (q : Params). q.writes + length (lifted.metas).order * width q) same ∙ ap (λ n. p.writes + n * width p) many_are

    pub seals_are : end_seals lifted ≡ seals_for_end p t
    seals_are = ap (λ (q : Params). length (lifted.metas).order * width q + checkpoint_cells q) same ∙ ap (λ n. n * width p + checkpoint_cells p) many_are

-- ---- room for the words

range_many : (a n : ℕ) → length (range_with_len a n) ≡ n
range_many a zero = refl
range_many a (suc n) = ap suc (range_many (a + 1) n)

levels_many : (n : ℕ) → length (by_falling_level n) ≤ 2 ^ n - 1
levels_many zero = omega arith
levels_many (suc n) = omega (arith, length-append (range_with_len (2 ^ n - 1) (2 ^ n)) (by_falling_level n), range_many (2 ^ n - 1) (2 ^ n), levels_many n, two-pow-succ n, pow_pos n)

filter_few : (f : ℕ → Bool) (xs : List ℕ) → length (filter f xs) ≤ length xs
filter_few f xs = omega (arith, length-filter f xs, count_by-le-length f xs)

listed_few : (lifted : Kept) → IsListed lifted → length (lifted.metas).order ≤ buckets lifted.p
unfolding buckets
listed_few lifted listed =
    let alike : length (lifted.metas).order ≡ length (filter (λ u. is_lifted lifted.metas u) (by_falling_level ((lifted.p).levels + 1))) = ap (λ (us : List ℕ). length us) listed in
    omega (arith, alike, filter_few (λ u. is_lifted lifted.metas u) (by_falling_level ((lifted.p).levels + 1)), levels_many ((lifted.p).levels + 1))

pub refill_room : (lifted : Kept) → IsListed lifted → refill_words lifted ≤ buckets lifted.p * width lifted.p
refill_room lifted listed = mul-le-mul_right (width lifted.p) (listed_few lifted listed)

-- ---- answers

-- what the renewing answers: worn, where it has not the words, or else by the rows and the seals
abbrev pub IsRenewed : (words size room next seals : ℕ) → Result (Unit {0}) Fault → Type 0
IsRenewed words size room next seals r = ((2 ^ 62 < words) × (r ≡ Err (fault.Worn (2 ^ 62)))) ⊎ ((words ≤ 2 ^ 62) × RenewAnswers size room next seals r)

pub is_renewed : (words size room next seals : ℕ) (r : Result (Unit {0}) Fault) → (2 ^ 62 < words → r ≡ Err (fault.Worn (2 ^ 62))) → (words ≤ 2 ^ 62 → RenewAnswers size room next seals r) → IsRenewed words size room next seals r
is_renewed words size room next seals r worn has = elim (cases_lt (2 ^ 62) words) [
  | inl more ↦ inl (more, worn more)
  | inr few ↦ inr (few, has few)
]

module _ (p : Params) (t : FlatTable) (epoch drawn next : ℕ) (ws : List (Write × Entry)) (more : suc epoch < 2 ^ 62) where
  -- the lifts were refused
  pub lifts_answer : (f : Fault) → IsRepeatFault f → MakeAnswers p t epoch drawn next ws (Err f)
  lifts_answer fault.Memory is = absurd is
  lifts_answer fault.Usage is = absurd is
  lifts_answer (fault.BadScript line) is = absurd is
  lifts_answer (fault.BadParams what) is = absurd is
  lifts_answer fault.NotStore is = absurd is
  lifts_answer (fault.Damaged cell what kept computed) is = more
  lifts_answer (fault.StoreFault unsure) is = (is, more)
  lifts_answer (fault.StashFull rows) is = absurd is
  lifts_answer (fault.Worn number) is = absurd is
  lifts_answer fault.SourceFault is = absurd is
  lifts_answer fault.SinkFault is = absurd is

  module _ (words size room seals : ℕ) (words_is : words ≡ drawn + words_for_end p t) (size_is : size ≡ rows_ended p t ws) (room_is : room ≡ p.room) (seals_is : seals ≡ seals_for_end p t) where
    has : words ≤ 2 ^ 62 → HasWords p t epoch drawn
    has few = record { epochs = more; words = omega (arith, few, words_is) }

    by_rows : (r : Result (Unit {0}) Fault) → words ≤ 2 ^ 62 → RenewAnswers size room next seals r → MakeAnswers p t epoch drawn next ws r
    by_rows (Ok done) few a = record { has = has few; rows = omega (arith, a.0, size_is, room_is); seals = omega (arith, a.1, seals_is) }
    by_rows (Err fault.Memory) few a = absurd a
    by_rows (Err fault.Usage) few a = absurd a
    by_rows (Err (fault.BadScript line)) few a = absurd a
    by_rows (Err (fault.BadParams what)) few a = absurd a
    by_rows (Err fault.NotStore) few a = absurd a
    by_rows (Err (fault.Damaged cell what kept computed)) few a = absurd a
    by_rows (Err (fault.StoreFault unsure)) few a = absurd a
    by_rows (Err (fault.StashFull rows)) few a = (has few, a.0 ∙ size_is, omega (arith, a.1, size_is, room_is))
    by_rows (Err (fault.Worn number)) few a = (a.0, inr (inr (has few, omega (arith, a.1, size_is, room_is), omega (arith, a.2, seals_is))))
    by_rows (Err fault.SourceFault) few a = absurd a
    by_rows (Err fault.SinkFault) few a = absurd a

    pub renew_answers : (r : Result (Unit {0}) Fault) → IsRenewed words size room next seals r → MakeAnswers p t epoch drawn next ws r
    renew_answers r is = ⊎_elim
        (λ (worn : (2 ^ 62 < words) × (r ≡ Err (fault.Worn (2 ^ 62)))). subst (λ (x : Result (Unit {0}) Fault). MakeAnswers p t epoch drawn next ws x) (sym worn.1) (refl, inr (inl (more, omega (arith, worn.0, words_is)))))
        (λ (rest : (words ≤ 2 ^ 62) × RenewAnswers size room next seals r). by_rows r rest.0 rest.1)
        is

-- the refusals of the lifts
pub lifts_faults : (f : Fault) → IsRepeatFault f → IsMakeFault f
lifts_faults fault.Memory is = absurd is
lifts_faults fault.Usage is = absurd is
lifts_faults (fault.BadScript line) is = absurd is
lifts_faults (fault.BadParams what) is = absurd is
lifts_faults fault.NotStore is = absurd is
lifts_faults (fault.Damaged cell what kept computed) is = tt
lifts_faults (fault.StoreFault unsure) is = is
lifts_faults (fault.StashFull rows) is = absurd is
lifts_faults (fault.Worn number) is = absurd is
lifts_faults fault.SourceFault is = absurd is
lifts_faults fault.SinkFault is = absurd is

-- what the renewing may answer: no refusal of the store, and no damage
pub record IsRenewal (r : Result (Unit {0}) Fault) : Type 0 where
  pub faults : IfErr r IsMakeFault
  pub damage : (keys : Keys) (p : Params) (versions : List Version) (image : Image) (t : FlatTable) → MakeDamage keys p versions image t r
  pub undamaged : IsUndamaged r
  pub blames : IfErr r (λ f. IsStoreFault f → ⊥)
  pub told : (most : ℕ) (cells : List ℕ) (notes : List Note) (a b : Option (List Event)) (k l : Trace) → BatchIsShown most cells notes a b k l → MakeTells most cells notes a b k l r

pub renewal : (words size room next seals : ℕ) (r : Result (Unit {0}) Fault) → IsRenewed words size room next seals r → IsRenewal r
renewal words size room next seals r is = ⊎_elim
    (λ (worn : (2 ^ 62 < words) × (r ≡ Err (fault.Worn (2 ^ 62)))). subst IsRenewal (sym worn.1) (record { faults = refl; damage = λ keys p versions image t. tt; undamaged = tt; blames = λ is. is; told = λ most cells notes a b k l shown. inl shown }))
    (λ (rest : (words ≤ 2 ^ 62) × RenewAnswers size room next seals r). by_answer r rest.1)
    is
  where
    by_answer : (x : Result (Unit {0}) Fault) → RenewAnswers size room next seals x → IsRenewal x
    by_answer (Ok done) a = record { faults = tt; damage = λ keys p versions image t. tt; undamaged = tt; blames = tt; told = λ most cells notes a b k l shown. shown }
    by_answer (Err fault.Memory) a = absurd a
    by_answer (Err fault.Usage) a = absurd a
    by_answer (Err (fault.BadScript line)) a = absurd a
    by_answer (Err (fault.BadParams what)) a = absurd a
    by_answer (Err fault.NotStore) a = absurd a
    by_answer (Err (fault.Damaged cell what kept computed)) a = absurd a
    by_answer (Err (fault.StoreFault unsure)) a = absurd a
    by_answer (Err (fault.StashFull rows)) a = record { faults = tt; damage = λ keys p versions image t. tt; undamaged = tt; blames = λ is. is; told = λ most cells notes a b k l shown. shown }
    by_answer (Err (fault.Worn number)) a = record { faults = a.0; damage = λ keys p versions image t. tt; undamaged = tt; blames = λ is. is; told = λ most cells notes a b k l shown. inl shown }
    by_answer (Err fault.SourceFault) a = absurd a
    by_answer (Err fault.SinkFault) a = absurd a

-- ---- what is told, and damaged

pub lifts_told : (most : ℕ) (cells : List ℕ) (notes : List Note) (a b : Option (List Event)) (k l : Trace) (f : Fault) → IsRepeatFault f → BatchTells most cells notes a b k l (Err f) → MakeTells most cells notes a b k l (Err f)
lifts_told most cells notes a b k l fault.Memory is told = absurd is
lifts_told most cells notes a b k l fault.Usage is told = absurd is
lifts_told most cells notes a b k l (fault.BadScript line) is told = absurd is
lifts_told most cells notes a b k l (fault.BadParams what) is told = absurd is
lifts_told most cells notes a b k l fault.NotStore is told = absurd is
lifts_told most cells notes a b k l (fault.Damaged cell what kept computed) is told = told
lifts_told most cells notes a b k l (fault.StoreFault unsure) is told = told
lifts_told most cells notes a b k l (fault.StashFull rows) is told = absurd is
lifts_told most cells notes a b k l (fault.Worn number) is told = absurd is
lifts_told most cells notes a b k l fault.SourceFault is told = absurd is
lifts_told most cells notes a b k l fault.SinkFault is told = absurd is

pub lifts_damage : (keys : Keys) (p : Params) (versions : List Version) (image : Image) (t : FlatTable) (rows rows' : Rows) (f : Fault) → IsRepeatFault f → LiftsAnswer keys p versions image t rows rows' (Err f) → MakeDamage keys p versions image t (Err f)
lifts_damage keys p versions image t rows rows' fault.Memory is answer = absurd is
lifts_damage keys p versions image t rows rows' fault.Usage is answer = absurd is
lifts_damage keys p versions image t rows rows' (fault.BadScript line) is answer = absurd is
lifts_damage keys p versions image t rows rows' (fault.BadParams what) is answer = absurd is
lifts_damage keys p versions image t rows rows' fault.NotStore is answer = absurd is
lifts_damage keys p versions image t rows rows' (fault.Damaged cell what kept computed) is answer = answer
lifts_damage keys p versions image t rows rows' (fault.StoreFault unsure) is answer = tt
lifts_damage keys p versions image t rows rows' (fault.StashFull full) is answer = absurd is
lifts_damage keys p versions image t rows rows' (fault.Worn number) is answer = absurd is
lifts_damage keys p versions image t rows rows' fault.SourceFault is answer = absurd is
lifts_damage keys p versions image t rows rows' fault.SinkFault is answer = absurd is

-- ---- the call of both

-- where it went well, it was not worn
pub when_renewed : {M : Type 0} (words size room next seals : ℕ) (r : Result (Unit {0}) Fault) → IsRenewed words size room next seals r → (words ≤ 2 ^ 62 → M) → OnOk r M
when_renewed {M} words size room next seals r is make = ⊎_elim
    (λ (worn : (2 ^ 62 < words) × (r ≡ Err (fault.Worn (2 ^ 62)))). subst (λ (x : Result (Unit {0}) Fault). OnOk x M) (sym worn.1) tt)
    (λ (rest : (words ≤ 2 ^ 62) × RenewAnswers size room next seals r). if_ok M r (make rest.0))
    is

module _ (p : Params) (t : FlatTable) (epoch drawn : ℕ) (old : List ℕ) where
  -- the lifts were refused
  pub lifts_draw : (f : Fault) → IsRepeatFault f → MakeDraws p t epoch drawn old old (Err f)
  lifts_draw fault.Memory is = absurd is
  lifts_draw fault.Usage is = absurd is
  lifts_draw (fault.BadScript line) is = absurd is
  lifts_draw (fault.BadParams what) is = absurd is
  lifts_draw fault.NotStore is = absurd is
  lifts_draw (fault.Damaged cell what kept computed) is = refl
  lifts_draw (fault.StoreFault unsure) is = refl
  lifts_draw (fault.StashFull rows) is = absurd is
  lifts_draw (fault.Worn number) is = absurd is
  lifts_draw fault.SourceFault is = absurd is
  lifts_draw fault.SinkFault is = absurd is

  module _ (new : List ℕ) (more : suc epoch < 2 ^ 62) (many size room next seals : ℕ) (is : many ≡ words_for_end p t) where
    by_renewal : (r : Result (Unit {0}) Fault) → drawn + many ≤ 2 ^ 62 → DrawsWords many old new → RenewAnswers size room next seals r → MakeDraws p t epoch drawn old new r
    by_renewal (Ok done) few draws a = subst (λ n. DrawsWords n old new) is draws
    by_renewal (Err fault.Memory) few draws a = absurd a
    by_renewal (Err fault.Usage) few draws a = absurd a
    by_renewal (Err (fault.BadScript line)) few draws a = absurd a
    by_renewal (Err (fault.BadParams what)) few draws a = absurd a
    by_renewal (Err fault.NotStore) few draws a = absurd a
    by_renewal (Err (fault.Damaged cell what kept computed)) few draws a = absurd a
    by_renewal (Err (fault.StoreFault unsure)) few draws a = absurd a
    by_renewal (Err (fault.StashFull rows)) few draws a = subst (λ n. DrawsWords n old new) is draws
    by_renewal (Err (fault.Worn number)) few draws a = inl (record { epochs = more; words = omega (arith, few, is) }, subst (λ n. DrawsWords n old new) is draws)
    by_renewal (Err fault.SourceFault) few draws a = absurd a
    by_renewal (Err fault.SinkFault) few draws a = absurd a

    pub renew_draws : (r : Result (Unit {0}) Fault) → IsRenewed (drawn + many) size room next seals r → (2 ^ 62 < drawn + many → new ≡ old) → (drawn + many ≤ 2 ^ 62 → DrawsWords many old new) → MakeDraws p t epoch drawn old new r
    renew_draws r renewed worn draws = ⊎_elim
        (λ (above : (2 ^ 62 < drawn + many) × (r ≡ Err (fault.Worn (2 ^ 62)))). subst (λ (x : Result (Unit {0}) Fault). MakeDraws p t epoch drawn old new x) (sym above.1)
        (inr (λ has. absurd (let words = has.words in omega (arith, words, above.0, is)), worn above.0)))
        (λ (rest : (drawn + many ≤ 2 ^ 62) × RenewAnswers size room next seals r). by_renewal r rest.0 (draws rest.0) rest.1)
        renewed

pub served_then : (old mid : Disk) (r : Result (Unit {0}) Fault) → IsRenewal r → Serves {T = Unit {0}} {E = Fault} IsStoreFault old mid (Ok tt) → Serves IsStoreFault old mid r
served_then old mid (Ok done) is serves = record { goes = serves.goes; out = serves.out; tells = serves.tells; cause = tt }
served_then old mid (Err f) is serves = record { goes = serves.goes; out = serves.out; tells = tt; cause = λ blamed. absurd (is.blames blamed) }

-- what the lifts leave of the planner, with its counter as it then is
pub made_kept : (old new : Kept) (n : ℕ) → new ≡ record old { metas = new.metas; stash = new.stash; counter = n } → new ≡ record old { metas = new.metas; stash = new.stash; counter = new.counter }
made_kept old new n kept = kept ∙ ap (λ m. record old { metas = new.metas; stash = new.stash; counter = m }) (sym (ap (λ (r : Kept). r.counter) kept))
