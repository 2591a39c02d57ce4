-- How many gets an epoch's transactions have made, and that its batches have had a place for each.
use Rattle.std.proofs.Common.{◌≡◌, ℕ, zero, suc, ◌+◌, ◌-◌, ◌<◌, ◌≤◌, Bool, true, false, if◌then◌else◌, List, [], ◌∷◌, ◌++◌, length, map, drop, Option, None, Some, option_map, option_and_then, unwrap_or, slice_get, refl, sym, ap, ◌∙◌, subst, arith, length-append, length-drop}
use Rattle.std.proofs.lemmas.Bool.{false≢true}
use Rattle.std.proofs.lemmas.Option.{none-some, same_Some}
use Rattle.ob_base.specs.declared.op.Op.{Op}
use Rattle.ob_base.specs.declared.op.Op.TheVariants.{Get, Put, Del}
use Rattle.ob_base.specs.declared.params.Params.{Params}
use Rattle.ob_order.specs.Works.{Work, is_going, at_ticket, edit, edit_index, goes_on, waiting_at, wait_for, add_op, with_op, end_work, stop_work, least_source, aborted_since, fall, cascade, aborted}
use Rattle.ob_order.specs.Order.{OrderState, asked, is_asked_for, after_take, write_op}
use Rattle.ob_outcomes.specs.Lone.{gets_in, writes_in}

-- ---- how many

pub gets_append : (xs ys : List (Op ℕ)) → gets_in (xs ++ ys) ≡ gets_in xs + gets_in ys
gets_append [] ys = omega arith
gets_append (Get key reply source ∷ xs) ys = let rest = gets_append xs ys in omega (arith, rest)
gets_append (Put key value ∷ xs) ys = gets_append xs ys
gets_append (Del key ∷ xs) ys = gets_append xs ys

pub writes_append : (xs ys : List (Op ℕ)) → writes_in (xs ++ ys) ≡ writes_in xs + writes_in ys
writes_append [] ys = omega arith
writes_append (Get key reply source ∷ xs) ys = writes_append xs ys
writes_append (Put key value ∷ xs) ys = let rest = writes_append xs ys in omega (arith, rest)
writes_append (Del key ∷ xs) ys = let rest = writes_append xs ys in omega (arith, rest)

-- a get that waits
abbrev pub one_if : Option ℕ → ℕ
one_if None = 0
one_if (Some key) = 1

-- the gets that a transaction has made, answered or not
abbrev pub made_by : Work → ℕ
made_by w = gets_in w.ops + one_if w.waiting

abbrev pub made_in : List Work → ℕ
made_in [] = 0
made_in (w ∷ ws) = made_by w + made_in ws

-- ---- edits

same_index : (f : Work → Work) → ((w : Work) → made_by (f w) ≡ made_by w) → (ws : List Work) (n : ℕ) → made_in (edit_index f ws n) ≡ made_in ws
same_index f keeps [] n = refl
same_index f keeps (w ∷ ws) zero = ap (λ q. q + made_in ws) (keeps w)
same_index f keeps (w ∷ ws) (suc n) = ap (λ q. made_by w + q) (same_index f keeps ws n)

pub made_same : (f : Work → Work) → ((w : Work) → made_by (f w) ≡ made_by w) → (ws : List Work) (t : ℕ) → made_in (edit f ws t) ≡ made_in ws
made_same f keeps ws zero = refl
made_same f keeps ws (suc n) = same_index f keeps ws n

more_index : (f : Work → Work) (k : ℕ) (ws : List Work) (n : ℕ) (w : Work) → slice_get ws n ≡ Some w → made_by w + k ≤ made_by (f w) → made_in ws + k ≤ made_in (edit_index f ws n)
more_index f k [] n w e more = absurd (none-some w e)
more_index f k (v ∷ ws) zero w e more = let here : made_by v + k ≤ made_by (f v) = subst (λ (q : Work). made_by q + k ≤ made_by (f q)) (sym (same_Some v w e)) more in omega (arith, here)
more_index f k (v ∷ ws) (suc n) w e more = let rest = more_index f k ws n w e more in omega (arith, rest)

-- the work of a ticket that goes on
pub its_work : (ws : List Work) (t : ℕ) → goes_on ws t ≡ true → (w : Work) × (at_ticket ws t ≡ Some w)
its_work ws t e = step (at_ticket ws t) refl e
  where
    step : (o : Option Work) → at_ticket ws t ≡ o → unwrap_or (option_map (λ w. is_going w.fate) o) false ≡ true → (w : Work) × (at_ticket ws t ≡ Some w)
    step None is e = absurd (false≢true e)
    step (Some w) is e = (w, is)

pub made_more : (f : Work → Work) (k : ℕ) (ws : List Work) (t : ℕ) (w : Work) → at_ticket ws t ≡ Some w → made_by w + k ≤ made_by (f w) → made_in ws + k ≤ made_in (edit f ws t)
made_more f k ws zero w e more = absurd (none-some w e)
made_more f k ws (suc n) w e more = more_index f k ws n w e more

pub made_append : (xs ys : List Work) → made_in (xs ++ ys) ≡ made_in xs + made_in ys
made_append [] ys = omega arith
made_append (w ∷ xs) ys = let rest = made_append xs ys in omega (arith, rest)

-- ---- what each call does

-- a get was answered
pub made_got : (ws : List Work) (t key source : ℕ) (reply : Option (List ℕ)) → goes_on ws t ≡ true → made_in ws ≤ made_in (with_op ws t (Get key reply source))
made_got ws t key source reply going =
    let here = its_work ws t going in
    let all = made_more (add_op (Get key reply source)) 0 ws t here.0 here.1 (one_more here.0.ops here.0.waiting) in
    omega (arith, all)
  where
    one_more : (ops : List (Op ℕ)) (waiting : Option ℕ) → (gets_in ops + one_if waiting) + 0 ≤ gets_in (ops ++ Get key reply source ∷ []) + 0
    one_more ops None = let is = gets_append ops (Get key reply source ∷ []) in omega (arith, is)
    one_more ops (Some k) = let is = gets_append ops (Get key reply source ∷ []) in omega (arith, is)

none_waits_there : (ws : List Work) (t : ℕ) (w : Work) → at_ticket ws t ≡ Some w → waiting_at ws t ≡ None → one_if w.waiting ≡ 0
none_waits_there ws t w e none = ap one_if (sym (ap (option_and_then (λ x. x.waiting)) e) ∙ none)

-- a write was done, where no get waits
pub made_wrote : (ws : List Work) (t key : ℕ) (value : Option (List ℕ)) → goes_on ws t ≡ true → waiting_at ws t ≡ None → made_in ws ≤ made_in (with_op ws t (write_op key value))
made_wrote ws t key value going none =
    let here = its_work ws t going in
    let free = none_waits_there ws t here.0 here.1 none in
    let is = gets_append here.0.ops (write_op key value ∷ []) in
    let no_get = none_got value in
    let all = made_more (add_op (write_op key value)) 0 ws t here.0 here.1 (omega (arith, free, is, no_get)) in
    omega (arith, all)
  where
    none_got : (v : Option (List ℕ)) → gets_in (write_op key v ∷ []) ≡ 0
    none_got None = refl
    none_got (Some bytes) = refl

-- a get has to wait, where none did
pub made_waits : (ws : List Work) (t key : ℕ) → goes_on ws t ≡ true → waiting_at ws t ≡ None → made_in ws + 1 ≤ made_in (edit (wait_for key) ws t)
made_waits ws t key going none =
    let here = its_work ws t going in
    let free = none_waits_there ws t here.0 here.1 none in
    made_more (wait_for key) 1 ws t here.0 here.1 (omega (arith, free))

-- an abort
made_cascade : (before now : List Work) (n : ℕ) → made_in (cascade before now n) ≡ made_in now
made_cascade before now zero = refl
made_cascade before now (suc n) =
    made_same (λ w. fall (least_source (aborted_since before (cascade before now n)) w.ops) w) (λ w. fell (least_source (aborted_since before (cascade before now n)) w.ops) w) (cascade before now n) (suc n) ∙ made_cascade before now n
  where
    fell : (o : Option ℕ) (w : Work) → made_by (fall o w) ≡ made_by w
    fell None w = refl
    fell (Some on) w = refl

pub made_aborted : (ws : List Work) (t : ℕ) → made_in (aborted ws t) ≡ made_in ws
made_aborted ws t = made_cascade ws (edit end_work ws t) (length ws) ∙ made_same end_work (λ w. refl) ws t

pub made_stopped : (ws : List Work) → made_in (map stop_work ws) ≡ made_in ws
made_stopped [] = refl
made_stopped (w ∷ ws) = ap (λ q. made_by w + q) (made_stopped ws)

-- a key is queued, or is so already
pub queued_one : (o : OrderState) (k : ℕ) → length (asked o k).queue ≤ length o.queue + 1
queued_one o k = step (is_asked_for o k)
  where
    step : (b : Bool) → length (if b then o else record o { queue = o.queue ++ k ∷ [] }).queue ≤ length o.queue + 1
    step true = omega arith
    step false = let is = length-append o.queue (k ∷ []) in omega (arith, is)

pub asked_left : (o : OrderState) (k : ℕ) → (asked o k).left ≡ o.left
asked_left o k = step (is_asked_for o k)
  where
    step : (b : Bool) → (if b then o else record o { queue = o.queue ++ k ∷ [] }).left ≡ o.left
    step true = refl
    step false = refl

-- ---- the room

-- So many batches have had, or have left, a place for each get that was made.
pub record HasRoom (batches : ℕ) (o : OrderState) : Type 0 where
  pub fits : batches + length o.queue ≤ o.left + made_in o.works

-- of the same queue and batches, and no fewer gets
pub room_kept : (batches : ℕ) (o n : OrderState) → length n.queue ≤ length o.queue → n.left ≡ o.left → made_in o.works ≤ made_in n.works → HasRoom batches o → HasRoom batches n
room_kept batches o n queue left more h = let before = h.fits in record { fits = omega (arith, queue, left, more, before) }

-- one get more, and perhaps its key
pub room_queued : (batches : ℕ) (o n : OrderState) → length n.queue ≤ length o.queue + 1 → n.left ≡ o.left → made_in o.works + 1 ≤ made_in n.works → HasRoom batches o → HasRoom batches n
room_queued batches o n queue left more h = let before = h.fits in record { fits = omega (arith, queue, left, more, before) }

-- a batch is taken that has a key
pub room_taken : (batches : ℕ) (p : Params) (o : OrderState) → 0 < length o.queue → 0 < o.left → HasRoom batches o → HasRoom batches (after_take p o)
room_taken batches p o some left h =
    let rest = length-drop p.places o.queue in
    let places = p.in_range.some_places in
    let before = h.fits in
    record { fits = taken p.places (length o.queue) o.left (length (drop p.places o.queue)) (made_in o.works) places some left rest before }
  where
    taken : (places queue left behind made : ℕ) → 1 ≤ places → 0 < queue → 0 < left → behind ≡ queue - places → batches + queue ≤ left + made → batches + behind ≤ (left - 1) + made
    taken places queue zero behind made a b c is before = absurd (omega (arith, c))
    taken (suc places) (suc queue) (suc left) behind made a b c is before = let fewer = sub_le queue places in omega (arith, is, before, fewer)
      where
        sub_le : (q p : ℕ) → q - p ≤ q
        sub_le q p = omega arith
    taken zero queue left behind made a b c is before = absurd (omega (arith, a))
    taken places zero left behind made a b c is before = absurd (omega (arith, b))
