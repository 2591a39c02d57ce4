-- An abort may pass over those that nobody noted, and ends where none is left.
use Rattle.std.proofs.Common.{◌≡◌, ℕ, zero, suc, ◌+◌, ◌-◌, ◌<◌, ◌≤◌, Bool, true, false, not, ◌&&◌, ◌||◌, ◌==◌, if◌then◌else◌, List, [], ◌∷◌, length, set, get_or, Option, None, Some, option_map, unwrap_or, is_some, slice_get, refl, sym, ap, ap₂, ◌∙◌, subst, ⊎_elim, arith, add-one, eq-eqb, ne_eqb}
use Rattle.std.proofs.lemmas.Bool.{cases_eq, cases_Bool, false≢true}
use Rattle.std.proofs.lemmas.Option.{none-some, same_Some}
use Rattle.std.specs.HashMap as hash
use Rattle.ob_order.specs.Works.{Op, Get, Put, Del, Work, is_going, is_gone, at_ticket, edit, edit_index, goes_on, last_write, end_work, aborted_since, least_of, least_source, fall, cascade, aborted, SourcesRise, Tidy}
use Rattle.ob_order.specs.Chains.{Sourced}
use Rattle.ob_order.proofs.Edits.{at_edit_other, slice_get-edit_same, length-edit}
use Rattle.ob_order.proofs.Newest.{by_option}
use Rattle.ob_order.proofs.Falls.{Fallen, fallen_ended, fallen_cascade, fallen_then, went_on_before, length-cascade}
use Rattle.ob_order.proofs.Tidies.{cascade_more, fall_idle}
use Rattle.ob_order.proofs.Steps.{item}
use Rattle.ob_key_versions.specs.declared.chain.Chain.{Chain}
use Rattle.ob_key_versions.specs.Tables.{is_reader}
use Rattle.ob_key_versions.specs.Agendas.{AgendaModel, has_ticket, Adds, IsReaderAbove}
use Rattle.ob_versions.specs.Ledgers.{IsLedger, IsReadyAgenda, HasReaders, ReadersIn, IsAbove}

-- ---- who is noted

-- the readers of the keys that a ticket wrote are those that have read what it wrote, and maybe more
pub read_noted : {S : Type 0} (ws : List Work) (m : hash.HashMap ℕ Chain S) (s : ℕ) (tickets : List ℕ) → Sourced ws → HasReaders ws m → 0 < s
    → ((v : Work) → at_ticket ws s ≡ Some v → (k u : ℕ) → is_some (last_write v.ops k) ≡ true → is_reader m k u ≡ true → s < u → has_ticket tickets u ≡ true) → ReadersIn ws tickets s s
read_noted ws m s tickets sourced readers above noted zero x there i k r got l = absurd (omega arith)
read_noted ws m s tickets sourced readers above noted (suc n) x there i k r got l =
    let v = sourced.at_each n x there i k r s got above in
    noted v.0 v.1 k (suc n) v.2 (readers.gets n x there i k r s got above) l

-- and they were drawn
pub adds_drawn : {S : Type 0} (ws : List Work) (m : hash.HashMap ℕ Chain S) (t : ℕ) (old new : AgendaModel) → HasReaders ws m → Adds old new (IsReaderAbove m t) → Adds old new (IsAbove t ws)
adds_drawn ws m t old new readers h = record {
  kept = h.kept;
  came = λ u e f. let c = h.came u e f in (c.0, (readers.drawn c.1.0 u c.1.1).1);
  room = h.room;
}

-- ---- steps that change nothing

edit_same : {A : Type 0} (f : A → A) (xs : List A) (n : ℕ) → ((x : A) → slice_get xs n ≡ Some x → f x ≡ x) → edit_index f xs n ≡ xs
edit_same f [] n h = refl
edit_same f (x ∷ xs) zero h = ap (λ y. y ∷ xs) (h x refl)
edit_same f (x ∷ xs) (suc n) h = ap (λ ys. x ∷ ys) (edit_same f xs n h)

abbrev step_of : List Work → List Work → Work → Work
step_of before mid w = fall (least_source (aborted_since before mid) w.ops) w

skip : (before now : List Work) (n m : ℕ) → n ≤ m
    → ((j : ℕ) → n ≤ j → j < m → (w : Work) → slice_get (cascade before now n) j ≡ Some w → step_of before (cascade before now n) w ≡ w) → cascade before now m ≡ cascade before now n
skip before now n zero l h = ap (cascade before now) (let e : 0 ≡ n = omega arith in e)
skip before now n (suc m) l h = ⊎_elim
    (λ same. ap (cascade before now) (sym same))
    (λ other.
    let low = skip before now n m (omega arith) (λ j a b. h j a (omega arith)) in
    ap (λ (mid : List Work). edit_index (step_of before mid) mid m) low ∙ edit_same (step_of before (cascade before now n)) (cascade before now n) m (h m (omega arith) (omega arith)))
    (cases_eq n (suc m))

none_least : (p : ℕ → Bool) (os : List (Op ℕ)) → ((i k : ℕ) (r : Option (List ℕ)) (s : ℕ) → slice_get os i ≡ Some (Get k r s) → p s ≡ false) → least_source p os ≡ None
none_least p [] h = refl
none_least p (Get k r s ∷ os) h = ap₂ least_of (ap (λ b. if b then Some s else None) (h 0 k r s refl)) (none_least p os (λ i. h (suc i)))
none_least p (Put k v ∷ os) h = none_least p os (λ i. h (suc i))
none_least p (Del k ∷ os) h = none_least p os (λ i. h (suc i))

idle_step : (before mid : List Work) (w : Work) → (is_going w.fate ≡ true → (i k : ℕ) (r : Option (List ℕ)) (s : ℕ) → slice_get w.ops i ≡ Some (Get k r s) → aborted_since before mid s ≡ false) → step_of before mid w ≡ w
idle_step before mid w h = ⊎_elim
    (λ going. ap (λ o. fall o w) (none_least (aborted_since before mid) w.ops (h going)))
    (λ idle. fall_idle (least_source (aborted_since before mid) w.ops) w idle)
    (cases_Bool (is_going w.fate))

-- ---- below the ticket that is aborted nobody falls

both_ways : (b : Bool) → (b && not b) ≡ false
both_ways true = refl
both_ways false = refl

since_other : (before : List Work) (t s : ℕ) → (s ≡ t → ⊥) → aborted_since before (edit end_work before t) s ≡ false
since_other before t s other = ap (λ o. goes_on before s && not (unwrap_or (option_map (λ w. is_going w.fate) o) false)) (at_edit_other end_work before t s other) ∙ both_ways (goes_on before s)

pub none_below : (before : List Work) (t : ℕ) → SourcesRise before → cascade before (edit end_work before t) t ≡ edit end_work before t
none_below before zero low = refl
none_below before (suc q) low =
    let now = edit end_work before (suc q) in
    skip before now 0 (suc q) (omega arith) (λ j a b w there. idle_step before now w (λ going i k r s got.
    let v = went_on_before before now (fallen_ended before (suc q)) j w there going in
    let bound : s ≤ suc j = low.at_each j v.0 v.1 v.2 i k r s (subst (λ (ops : List (Op ℕ)). slice_get ops i ≡ Some (Get k r s)) (sym v.3) got) in
    ⊎_elim
    (λ here. absurd (ended q w (subst (λ x. slice_get now x ≡ Some w) here there) going))
    (λ apart. since_other before (suc q) s (λ e. absurd (omega (arith, bound, e))))
    (cases_eq j q)))
  where
    ended : (q : ℕ) (w : Work) → slice_get (edit_index end_work before q) q ≡ Some w → is_going w.fate ≡ true → ⊥
    ended q w there going = by_option (slice_get before q)
        (λ none. none-some w (sym (ap (option_map end_work) none) ∙ (sym (slice_get-edit_same end_work before q) ∙ there)))
        (λ v is. false≢true (ap (λ x. is_going x.fate) (same_Some (end_work v) w (sym (ap (option_map end_work) is) ∙ (sym (slice_get-edit_same end_work before q) ∙ there))) ∙ going))

-- ---- those who have read from who was aborted, and stand above this ticket, are noted

pub record Pending (before mid : List Work) (tickets : List ℕ) (last : ℕ) : Type 0 where
  pub at_each : (s : ℕ) → aborted_since before mid s ≡ true → ReadersIn before tickets s last

pending_ended : (before : List Work) (t : ℕ) (tickets : List ℕ) → ReadersIn before tickets t t → Pending before (edit end_work before t) tickets t
pending_ended before t tickets h = record {
  at_each = λ s since. ⊎_elim
      (λ same. subst (λ q. ReadersIn before tickets q t) (sym same) h)
      (λ other. absurd (false≢true (sym (since_other before t s other) ∙ since)))
      (cases_eq s t);
}

-- up to the next noted one nobody falls
none_between : (before now : List Work) (n m : ℕ) (tickets : List ℕ) → Fallen before now → n ≤ m → Pending before (cascade before now n) tickets n → ((u : ℕ) → n < u → u ≤ m → has_ticket tickets u ≡ false) → cascade before now m ≡ cascade before now n
none_between before now n m tickets fallen l h none = skip before now n m l (λ j a b w there. idle_step before (cascade before now n) w (λ going i k r s got.
    let mid = cascade before now n in
    let v = went_on_before before mid (fallen_then before now mid fallen (fallen_cascade before now n)) j w there going in
    ⊎_elim
    (λ since. absurd (false≢true (sym (none (suc j) (omega (arith, a)) (omega (arith, b))) ∙ h.at_each s since (suc j) v.0 v.1 i k r (subst (λ (ops : List (Op ℕ)). slice_get ops i ≡ Some (Get k r s)) (sym v.3) got) (omega (arith, a)))))
    (λ isnt. isnt)
    (cases_Bool (aborted_since before mid s))))

-- one ticket on
pending_more : (before now : List Work) (n : ℕ) (old new : List ℕ) → Fallen before now → Pending before (cascade before now n) old n
    → ((u : ℕ) → suc n < u → has_ticket old u ≡ true → has_ticket new u ≡ true)
    → (goes_on (cascade before now n) (suc n) ≡ true → goes_on (cascade before now (suc n)) (suc n) ≡ false → ReadersIn (cascade before now n) new (suc n) (suc n))
    → Pending before (cascade before now (suc n)) new (suc n)
pending_more before now n old new fallen h kept noted = record {
  at_each = λ s since. ⊎_elim
      (λ earlier u w there i k r got l. kept u l (h.at_each s earlier u w there i k r got (omega (arith, l))))
      (λ fresh_now. ⊎_elim
      (λ same. subst (λ q. ReadersIn before new q (suc n)) (sym same) (moved (suc n) (noted
      (still (goes_on before (suc n)) (goes_on mid (suc n)) (subst (λ q. aborted_since before mid q ≡ false) same fresh_now) (first (goes_on before (suc n)) (goes_on after (suc n)) (subst (λ q. aborted_since before after q ≡ true) same since)))
      (second (goes_on before (suc n)) (goes_on after (suc n)) (subst (λ q. aborted_since before after q ≡ true) same since)))))
      (λ other. absurd (false≢true (sym fresh_now ∙ (sym (ap (λ o. goes_on before s && not (unwrap_or (option_map (λ w. is_going w.fate) o) false)) (at_edit_other (step_of before mid) mid (suc n) s other)) ∙ since))))
      (cases_eq s (suc n)))
      (cases_Bool (aborted_since before mid s));
}
  where
    mid : List Work
    mid = cascade before now n

    after : List Work
    after = cascade before now (suc n)

    moved : (s : ℕ) → ReadersIn mid new s (suc n) → ReadersIn before new s (suc n)
    moved s r u w there i k x got l = by_option (at_ticket mid u)
        (λ none. absurd (none-some w.ops (sym (ap (option_map (λ y. y.ops)) none) ∙ ((fallen_then before now mid fallen (fallen_cascade before now n)).same_ops u ∙ ap (option_map (λ y. y.ops)) there))))
        (λ v is. r u v is i k x (subst (λ (ops : List (Op ℕ)). slice_get ops i ≡ Some (Get k x s)) (sym (same_Some v.ops w.ops (sym (ap (option_map (λ y. y.ops)) is) ∙ ((fallen_then before now mid fallen (fallen_cascade before now n)).same_ops u ∙ ap (option_map (λ y. y.ops)) there)))) got) l)

    first : (a b : Bool) → (a && not b) ≡ true → a ≡ true
    first true b e = refl
    first false b e = e

    second : (a b : Bool) → (a && not b) ≡ true → b ≡ false
    second true true e = absurd (false≢true e)
    second true false e = refl
    second false b e = absurd (false≢true e)

    still : (a b : Bool) → (a && not b) ≡ false → a ≡ true → b ≡ true
    still true true e f = refl
    still true false e f = absurd (false≢true (sym e))
    still false b e f = absurd (false≢true f)

-- ---- the run of an abort

-- the tickets up to the last one have fallen, and who may fall above it is on the agenda
pub record Running {S : Type 0} (before : List Work) (t keys written : ℕ) (list : List Work) (m : hash.HashMap ℕ Chain S) (agenda : AgendaModel) : Type 0 where
  pub last : ℕ
  pub within : last ≤ length before
  pub so_far : list ≡ cascade before (edit end_work before t) last
  pub kept : IsLedger keys written list m
  pub pending : Pending before (cascade before (edit end_work before t) last) agenda.tickets last
  pub ahead : (u : ℕ) → has_ticket agenda.tickets u ≡ true → IsAbove last before u
  pub room : length before ≤ agenda.room

pub running_begins : {S : Type 0} (before : List Work) (t keys written : ℕ) (list : List Work) (m : hash.HashMap ℕ Chain S) (idle agenda : AgendaModel) → SourcesRise before → t ≤ length before → IsReadyAgenda before idle
    → ReadersIn before agenda.tickets t t → Adds idle agenda (IsAbove t before) → list ≡ edit end_work before t → IsLedger keys written list m → Running before t keys written list m agenda
running_begins before t keys written list m idle agenda rises within ready has adds is kept = record {
  last = t;
  within = within;
  so_far = is ∙ sym (none_below before t rises);
  kept = kept;
  pending = subst (λ (ws : List Work). Pending before ws agenda.tickets t) (sym (none_below before t rises)) (pending_ended before t agenda.tickets has);
  ahead = λ u e. adds.came u e (ap (λ ts. has_ticket ts u) ready.1);
  room = omega (arith, ready.0, adds.room);
}

-- the least of the agenda is the next one that may fall
pub at_next : {S : Type 0} (before : List Work) (t keys written : ℕ) (list : List Work) (m : hash.HashMap ℕ Chain S) (old rest : AgendaModel) (next : ℕ) → Running before t keys written list m old
    → old.tickets ≡ next ∷ rest.tickets → ((u : ℕ) → has_ticket rest.tickets u ≡ true → next < u)
    → (p : ℕ) × (next ≡ suc p) × (suc p ≤ length before) × (list ≡ cascade before (edit end_work before t) p) × Pending before (cascade before (edit end_work before t) p) old.tickets p
at_next before t keys written list m old rest zero h is least = absurd (let a = (h.ahead zero (ap (λ ts. has_ticket ts zero) is)).0 in omega (arith, a))
at_next before t keys written list m old rest (suc p) h is least =
    let now = edit end_work before t in
    let here : has_ticket old.tickets (suc p) ≡ true = ap (λ ts. has_ticket ts (suc p)) is ∙ ap (λ b. b || has_ticket rest.tickets (suc p)) (eq-eqb (suc p) (suc p) refl) in
    let next = h.ahead (suc p) here in
    let same : cascade before now p ≡ cascade before now h.last = none_between before now h.last p old.tickets (fallen_ended before t) (omega (arith, next.0)) h.pending (λ u a b. ap (λ ts. has_ticket ts u) is ∙ off u b) in
    (p, refl, next.1, h.so_far ∙ sym same, record { at_each = λ s since u w there i k r got l. h.pending.at_each s (subst (λ (ws : List Work). aborted_since before ws s ≡ true) same since) u w there i k r got (omega (arith, next.0, l)) })
  where
    off : (u : ℕ) → u ≤ p → has_ticket (suc p ∷ rest.tickets) u ≡ false
    off u l = ap (λ b. b || has_ticket rest.tickets u) (ne_eqb (suc p) u (λ e. absurd (omega (arith, l, e)))) ∙ ⊎_elim
        (λ there. absurd (let a = least u there in omega (arith, a, l)))
        (λ isnt. isnt)
        (cases_Bool (has_ticket rest.tickets u))

pub running_on : {S : Type 0} (before : List Work) (t keys written written' : ℕ) (list list' : List Work) (m m' : hash.HashMap ℕ Chain S) (old rest new : AgendaModel) (next : ℕ) → Tidy before → Running before t keys written list m old
    → old.tickets ≡ next ∷ rest.tickets → ((u : ℕ) → has_ticket rest.tickets u ≡ true → next < u) → rest.room ≡ old.room
    → ((w : Work) → w ≡ get_or list (next - 1) w → list' ≡ set list (next - 1) (fall (least_source (is_gone list) w.ops) w)) → IsLedger keys written' list' m'
    → (goes_on list (next - 1 + 1) ≡ true → goes_on list' (next - 1 + 1) ≡ false → ReadersIn list new.tickets (next - 1 + 1) (next - 1 + 1)) → Adds rest new (IsAbove (next - 1 + 1) list) → Running before t keys written' list' m' new
running_on {S} before t keys written written' list list' m m' old rest new next tidy h is least same_room falls kept noted adds =
    let a = at_next before t keys written list m old rest next h is least in
    go a.0 a.1 a.2 a.3 a.4
  where
    now : List Work
    now = edit end_work before t

    go : (p : ℕ) → next ≡ suc p → suc p ≤ length before → list ≡ cascade before now p → Pending before (cascade before now p) old.tickets p → Running before t keys written' list' m' new
    go p here within so_far pending =
        let fallen = fallen_ended before t in
        let back : next - 1 ≡ p = omega (arith, here) in
        let forth : next - 1 + 1 ≡ suc p = omega (arith, here) in
        let len : length list ≡ length before = ap length so_far ∙ (length-cascade before now p ∙ length-edit end_work before t) in
        let it = item list p (omega (arith, within, len)) in
        let there : it.0 ≡ get_or (cascade before now p) p it.0 = subst (λ (xs : List Work). it.0 ≡ get_or xs p it.0) so_far it.1 in
        let fell : list' ≡ cascade before now (suc p) =
        falls it.0 (subst (λ q. it.0 ≡ get_or list q it.0) (sym back) it.1)
        ∙ (ap (λ q. set list q (fall (least_source (is_gone list) it.0.ops) it.0)) back
        ∙ (ap (λ (ws : List Work). set ws p (fall (least_source (is_gone ws) it.0.ops) it.0)) so_far
        ∙ (sym (cascade_more before now p it.0 tidy fallen (omega (arith, within, length-edit end_work before t)) there) ∙ ap (cascade before now) (add-one p)))) in
        let noted_p = subst (λ q. goes_on list q ≡ true → goes_on list' q ≡ false → ReadersIn list new.tickets q q) forth noted in
        let noted_mid = subst (λ (ys : List Work). goes_on (cascade before now p) (suc p) ≡ true → goes_on ys (suc p) ≡ false → ReadersIn (cascade before now p) new.tickets (suc p) (suc p)) fell
        (subst (λ (xs : List Work). goes_on xs (suc p) ≡ true → goes_on list' (suc p) ≡ false → ReadersIn xs new.tickets (suc p) (suc p)) so_far noted_p) in
        record {
          last = suc p;
          within = within;
          so_far = fell;
          kept = kept;
          pending = pending_more before now p old.tickets new.tickets fallen pending (λ u l e. adds.kept u (stays u (omega (arith, l, here)) e)) noted_mid;
          ahead = λ u e. ⊎_elim
              (λ was. let b = least u was in let c = h.ahead u (ap (λ ts. has_ticket ts u) is ∙ or_true (next == u) (has_ticket rest.tickets u) was) in (omega (arith, b, here), c.1))
              (λ isnt. let c = adds.came u e isnt in (omega (arith, c.0, forth), omega (arith, c.1, len)))
              (cases_Bool (has_ticket rest.tickets u));
          room = omega (arith, h.room, same_room, adds.room);
        }
      where
        or_true : (a b : Bool) → b ≡ true → (a || b) ≡ true
        or_true true b e = refl
        or_true false b e = e

        stays : (u : ℕ) → next < u → has_ticket old.tickets u ≡ true → has_ticket rest.tickets u ≡ true
        stays u l e = sym (ap (λ b. b || has_ticket rest.tickets u) (ne_eqb next u (λ q. absurd (omega (arith, l, q))))) ∙ (sym (ap (λ ts. has_ticket ts u) is) ∙ e)

-- an empty agenda ends it
pub running_ends : {S : Type 0} (before : List Work) (t keys written : ℕ) (list : List Work) (m : hash.HashMap ℕ Chain S) (old new : AgendaModel) → Running before t keys written list m old → old.tickets ≡ [] → new.tickets ≡ [] → new.room ≡ old.room
    → (list ≡ aborted before t) × IsLedger keys written list m × IsReadyAgenda list new
running_ends before t keys written list m old new h none empty same =
    let now = edit end_work before t in
    let len : length list ≡ length before = ap length h.so_far ∙ (length-cascade before now h.last ∙ length-edit end_work before t) in (
      h.so_far ∙ sym (none_between before now h.last (length before) old.tickets (fallen_ended before t) h.within h.pending (λ u a b. ap (λ ts. has_ticket ts u) none)),
      h.kept,
      (omega (arith, len, h.room, same), empty),
    )

-- the place of the next one
pub next_place : {S : Type 0} (before : List Work) (t keys written : ℕ) (list : List Work) (m : hash.HashMap ℕ Chain S) (old rest : AgendaModel) (next : ℕ) → Running before t keys written list m old
    → old.tickets ≡ next ∷ rest.tickets → ((u : ℕ) → has_ticket rest.tickets u ≡ true → next < u) → (1 ≤ next) × (next - 1 < length list)
next_place before t keys written list m old rest next h is least =
    let a = at_next before t keys written list m old rest next h is least in
    let len : length list ≡ length before = ap length h.so_far ∙ (length-cascade before (edit end_work before t) h.last ∙ length-edit end_work before t) in
    (omega (arith, a.1), omega (arith, a.1, a.2, len))

-- ---- how long it may take

abbrev pub left_of : ℕ → List ℕ → ℕ
left_of room [] = 0
left_of room (t ∷ ts) = suc (room - t)

pub fewer_left : (room next : ℕ) (old rest new : List ℕ) → old ≡ next ∷ rest → ((u : ℕ) → has_ticket new u ≡ true → (next < u) × (u ≤ room)) → left_of room new < left_of room old
fewer_left room next old rest [] is h = subst (λ (q : List ℕ). 0 < left_of room q) (sym is) (omega arith)
fewer_left room next old rest (t ∷ ts) is h =
    let a = h t (ap (λ b. b || has_ticket ts t) (eq-eqb t t refl)) in
    subst (λ (q : List ℕ). suc (room - t) < left_of room q) (sym is) (omega (arith, a.0, a.1))

pub smaller : {S : Type 0} (before : List Work) (t keys written : ℕ) (list : List Work) (m : hash.HashMap ℕ Chain S) (old rest new : AgendaModel) (next : ℕ) → Running before t keys written list m old
    → old.tickets ≡ next ∷ rest.tickets → ((u : ℕ) → has_ticket rest.tickets u ≡ true → next < u) → Adds rest new (IsAbove (next - 1 + 1) list) → left_of (length before) new.tickets < left_of (length before) old.tickets
smaller before t keys written list m old rest new next h is least adds =
    let a = at_next before t keys written list m old rest next h is least in
    let len : length list ≡ length before = ap length h.so_far ∙ (length-cascade before (edit end_work before t) h.last ∙ length-edit end_work before t) in
    fewer_left (length before) next old.tickets rest.tickets new.tickets is (λ u e. ⊎_elim
    (λ was. (least u was, (h.ahead u (ap (λ ts. has_ticket ts u) is ∙ or_true (next == u) (has_ticket rest.tickets u) was)).1))
    (λ isnt. let c = adds.came u e isnt in (omega (arith, c.0, a.1), omega (arith, c.1, len)))
    (cases_Bool (has_ticket rest.tickets u)))
  where
    or_true : (a b : Bool) → b ≡ true → (a || b) ≡ true
    or_true true b e = refl
    or_true false b e = e
