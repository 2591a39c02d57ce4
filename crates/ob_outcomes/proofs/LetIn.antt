-- A lone client isn't turned away, where its transactions ask for few gets and writes.
use Rattle.std.proofs.Common.{◌≡◌, ℕ, ◌+◌, ◌≤◌, ◌==◌, Bool, true, false, if◌then◌else◌, List, [], ◌∷◌, ◌++◌, All, refl, ap, ◌∙◌, subst, inl, inr, ◌⊎◌, arith}
use Rattle.std.specs.Prelude.{filter, flat_map}
use Rattle.std.proofs.lemmas.Bool.{false≢true, eq-eqb}
use Rattle.std.proofs.lemmas.List.Elements.{All-head, All-tail, All-cons, All-nil}
use Rattle.ob_base.specs.declared.op.Op.{Op}
use Rattle.ob_base.specs.declared.params.Params.{Params}
use Rattle.ob_serial.specs.Serial.{TxnRecord, EpochRecord}
use Rattle.ob_serial.specs.declared.records.Why.TheVariants.{Conflict, Depends, ReadsFull, WritesFull, ShareReads, ShareWrites, EpochEnd, Asked, Stopped}
use Rattle.ob_serial.specs.declared.records.Outcome.{Outcome}
use Rattle.ob_serial.specs.declared.records.Outcome.TheVariants.{Committed, Aborted, Unsure}
use Rattle.ob_session.specs.Records.{txns_by}
use Rattle.ob_script.specs.declared.line.Ask.{Ask}
use Rattle.ob_script.specs.declared.line.Ask.TheVariants.{Get, Put, Del, Add}
use Rattle.ob_script.specs.Script.{ScriptTxn, Scripts, asks_by}
use Rattle.ob_runner.specs.Meaning.{IsOpsOf, Meets, MeetsFront, IsAddsGet}
use Rattle.ob_conduct.specs.Acts.{records}
use Rattle.ob_outcomes.specs.Served.{EndsAs, ServedFirst, ClientsServed}
use Rattle.ob_outcomes.specs.Lone.{gets_in, writes_in, gets_of, writes_of, gets_asked, writes_asked, AsksFew, HasUsedPlaces, IsTurnedAway, AreLetIn, LoneIsLetIn}
use Rattle.ob_outcomes.proofs.LoneActs.{lone_uses_places}
use Rattle.ob_outcomes.proofs.Rooms.{gets_append, writes_append}

-- ---- what a front of the asks makes

gets_asked_append : (xs ys : List Ask) → gets_asked (xs ++ ys) ≡ gets_asked xs + gets_asked ys
gets_asked_append [] ys = omega arith
gets_asked_append (a ∷ xs) ys = let rest = gets_asked_append xs ys in omega (arith, rest)

writes_asked_append : (xs ys : List Ask) → writes_asked (xs ++ ys) ≡ writes_asked xs + writes_asked ys
writes_asked_append [] ys = omega arith
writes_asked_append (a ∷ xs) ys = let rest = writes_asked_append xs ys in omega (arith, rest)

record MadeJust (ops : List (Op ℕ)) (gets writes : ℕ) : Type 0 where
  pub gets_are : gets_in ops ≡ gets
  pub writes_are : writes_in ops ≡ writes

of_one : (a : Ask) (ops : List (Op ℕ)) → IsOpsOf a ops → MadeJust ops (gets_of a) (writes_of a)
of_one (Get key) ops (reply, source, is) = record { gets_are = ap gets_in is; writes_are = ap writes_in is }
of_one (Put key value) ops is = record { gets_are = ap gets_in is; writes_are = ap writes_in is }
of_one (Del key) ops is = record { gets_are = ap gets_in is; writes_are = ap writes_in is }
of_one (Add key amount) ops (reply, source, new, sum, is) = record { gets_are = ap gets_in is; writes_are = ap writes_in is }

of_met : (asks : List Ask) (ops : List (Op ℕ)) → Meets asks ops → MadeJust ops (gets_asked asks) (writes_asked asks)
of_met [] ops is = record { gets_are = ap gets_in is; writes_are = ap writes_in is }
of_met (a ∷ asks) ops (these, more, is, one, rest) =
    let first = of_one a these one in
    let behind = of_met asks more rest in
    let g1 = first.gets_are in let g2 = behind.gets_are in let g3 = gets_append these more in
    let w1 = first.writes_are in let w2 = behind.writes_are in let w3 = writes_append these more in
    record { gets_are = ap gets_in is ∙ omega (arith, g1, g2, g3); writes_are = ap writes_in is ∙ omega (arith, w1, w2, w3) }

record MadeAtMost (ops : List (Op ℕ)) (gets writes : ℕ) : Type 0 where
  pub few_gets : gets_in ops ≤ gets
  pub few_writes : writes_in ops ≤ writes

begun_few : (left : List Ask) (more : List (Op ℕ)) → (more ≡ []) ⊎ IsAddsGet left more → MadeAtMost more (gets_asked left) (writes_asked left)
begun_few left more (inl none) = let g = ap gets_in none in let w = ap writes_in none in record { few_gets = omega (arith, g); few_writes = omega (arith, w) }
begun_few left more (inr h) =
    let g = ap gets_in h.ops_are in let w = ap writes_in h.ops_are in let a = ap gets_asked h.asks_are in
    record { few_gets = omega (arith, g, a); few_writes = omega (arith, w) }

of_front : (asks : List Ask) (ops : List (Op ℕ)) → MeetsFront asks ops → MadeAtMost ops (gets_asked asks) (writes_asked asks)
of_front asks ops h =
    let met = of_met h.met h.these h.meets in
    let more = begun_few h.left h.more h.begun in
    let g0 = ap gets_in h.ops_are in let g1 = gets_append h.these h.more in let g2 = met.gets_are in let g3 = more.few_gets in
    let g4 = ap gets_asked h.asks_are in let g5 = gets_asked_append h.met h.left in
    let w0 = ap writes_in h.ops_are in let w1 = writes_append h.these h.more in let w2 = met.writes_are in let w3 = more.few_writes in
    let w4 = ap writes_asked h.asks_are in let w5 = writes_asked_append h.met h.left in
    record { few_gets = omega (arith, g0, g1, g2, g3, g4, g5); few_writes = omega (arith, w0, w1, w2, w3, w4, w5) }

-- ---- each transaction of the records is one of the script's

pub record IsOf (P : ScriptTxn → Type 0) (t : TxnRecord ℕ) : Type 0 where
  pub asked : ScriptTxn
  pub so : P asked
  pub ends : EndsAs asked t.ops t.outcome

served_each : (P : ScriptTxn → Type 0) (asks : List ScriptTxn) (txns : List (TxnRecord ℕ)) → All P asks → ServedFirst asks txns → All (IsOf P) txns
served_each P asks [] all served = All-nil (IsOf P)
served_each P [] (t ∷ txns) all served = absurd served
served_each P (a ∷ asks) (t ∷ txns) all (one, served) = All-cons (IsOf P) t txns (record { asked = a; so = All-head P a asks all; ends = one }) (served_each P asks txns (All-tail P a asks all) served)

all_filter : {A : Type 0} (P : A → Type 0) (q : A → Bool) (xs : List A) → All P xs → All P (filter q xs)
all_filter P q [] all = All-nil P
all_filter P q (x ∷ xs) all = by (q x) (all_filter P q xs (All-tail P x xs all))
  where
    by : (b : Bool) → All P (filter q xs) → All P (if b then x ∷ filter q xs else filter q xs)
    by true rest = All-cons P x (filter q xs) (All-head P x xs all) rest
    by false rest = rest

-- what is so of each client's is so of all
pub by_each : (Q : TxnRecord ℕ → Type 0) (xs : List (TxnRecord ℕ)) → ((c : ℕ) → All Q (filter (λ t. t.client == c) xs)) → All Q xs
by_each Q [] each = All-nil Q
by_each Q (t ∷ xs) each = All-cons Q t xs
    (head_of (t.client == t.client) (filter (λ x. x.client == t.client) xs) (eq-eqb t.client t.client refl) (each t.client))
    (by_each Q xs (λ c. tail_of (t.client == c) (filter (λ x. x.client == c) xs) (each c)))
  where
    head_of : (b : Bool) (rest : List (TxnRecord ℕ)) → b ≡ true → All Q (if b then t ∷ rest else rest) → Q t
    head_of true rest is all = All-head Q t rest all
    head_of false rest is all = absurd (false≢true is)

    tail_of : (b : Bool) (rest : List (TxnRecord ℕ)) → All Q (if b then t ∷ rest else rest) → All Q rest
    tail_of true rest all = All-tail Q t rest all
    tail_of false rest all = all

all_front : {A : Type 0} (P : A → Type 0) (xs ys : List A) → All P (xs ++ ys) → All P xs
all_front P [] ys all = All-nil P
all_front P (x ∷ xs) ys all = All-cons P x xs (All-head P x (xs ++ ys) all) (all_front P xs ys (All-tail P x (xs ++ ys) all))

all_behind : {A : Type 0} (P : A → Type 0) (xs ys : List A) → All P (xs ++ ys) → All P ys
all_behind P [] ys all = all
all_behind P (x ∷ xs) ys all = all_behind P xs ys (All-tail P x (xs ++ ys) all)

in_records : (Q : TxnRecord ℕ → Type 0) (told : List (EpochRecord ℕ)) → All Q (flat_map (λ r. r.txns) told) → All (λ r. All Q r.txns) told
in_records Q [] all = All-nil _
in_records Q (r ∷ told) all = All-cons (λ (r : EpochRecord ℕ). All Q r.txns) r told
    (all_front Q r.txns (flat_map (λ (r : EpochRecord ℕ). r.txns) told) all) (in_records Q told (all_behind Q r.txns (flat_map (λ (r : EpochRecord ℕ). r.txns) told) all))

pub of_script : (P : ScriptTxn → Type 0) (script : Scripts) (told : List (EpochRecord ℕ)) → All P script.txns → ClientsServed script told → All (λ r. All (IsOf P) r.txns) told
of_script P script told all served = in_records (IsOf P) told (by_each (IsOf P) (flat_map (λ (r : EpochRecord ℕ). r.txns) told)
    (λ c. served_each P (asks_by c script.txns) (txns_by c told) (all_filter P (λ t. t.client == c) script.txns all) (served c)))

-- ---- who was turned away

few_reads : (left : ℕ) (p : Params) (t : TxnRecord ℕ) (asked : ScriptTxn) (o : Outcome ℕ) → AsksFew left p asked → EndsAs asked t.ops o → HasUsedPlaces left p t o → t.ticket ≡ 1 → IsTurnedAway o → ⊥
few_reads left p t asked (Aborted (ReadsFull queued l)) few ends used one away =
    let front = of_front asked.asks t.ops ends in let a = front.few_gets in let b = few.gets in let c = used one in omega (arith, a, b, c)
few_reads left p t asked (Aborted (WritesFull keys)) few ends used one away =
    let front = of_front asked.asks t.ops ends in let a = front.few_writes in let b = few.writes in omega (arith, a, b, used)
few_reads left p t asked (Aborted (ShareReads keys)) few ends used one away = used
few_reads left p t asked (Aborted (ShareWrites keys)) few ends used one away = used
few_reads left p t asked (Aborted (Conflict key reader)) few ends used one away = away
few_reads left p t asked (Aborted (Depends on)) few ends used one away = away
few_reads left p t asked (Aborted EpochEnd) few ends used one away = away
few_reads left p t asked (Aborted Asked) few ends used one away = away
few_reads left p t asked (Aborted (Stopped fault)) few ends used one away = away
few_reads left p t asked Committed few ends used one away = away
few_reads left p t asked (Unsure epoch) few ends used one away = away

few_keys : (left : ℕ) (p : Params) (t : TxnRecord ℕ) (h : IsOf (AsksFew left p) t) → HasUsedPlaces left p t t.outcome → (keys : ℕ) → t.outcome ≡ Aborted (WritesFull keys) → ⊥
few_keys left p t h used keys e =
    let front = of_front h.asked.asks t.ops (subst (EndsAs h.asked t.ops) e h.ends) in
    let a = front.few_writes in let b = h.so.writes in
    let c : p.writes ≤ writes_in t.ops = subst (HasUsedPlaces left p t) e used in
    omega (arith, a, b, c)

let_in : (left : ℕ) (p : Params) (rs : List (EpochRecord ℕ)) → All (λ r. All (IsOf (AsksFew left p)) r.txns) rs → All (λ r. All (λ t. HasUsedPlaces left p t t.outcome) r.txns) rs → All AreLetIn rs
let_in left p [] served used = All-nil AreLetIn
let_in left p (r ∷ rs) served used =
    let s = All-head (λ (r : EpochRecord ℕ). All (IsOf (AsksFew left p)) r.txns) r rs served in
    let u = All-head (λ (r : EpochRecord ℕ). All (λ t. HasUsedPlaces left p t t.outcome) r.txns) r rs used in
    All-cons AreLetIn r rs
    (record { first = first r.txns s u; writes = writes r.txns s u })
    (let_in left p rs (All-tail (λ (r : EpochRecord ℕ). All (IsOf (AsksFew left p)) r.txns) r rs served) (All-tail (λ (r : EpochRecord ℕ). All (λ t. HasUsedPlaces left p t t.outcome) r.txns) r rs used))
  where
    first : (txns : List (TxnRecord ℕ)) → All (IsOf (AsksFew left p)) txns → All (λ t. HasUsedPlaces left p t t.outcome) txns → All (λ t. t.ticket ≡ 1 → IsTurnedAway t.outcome → ⊥) txns
    first [] s u = All-nil _
    first (t ∷ txns) s u =
        let h = All-head (IsOf (AsksFew left p)) t txns s in
        All-cons (λ (t : TxnRecord ℕ). t.ticket ≡ 1 → IsTurnedAway t.outcome → ⊥) t txns
        (few_reads left p t h.asked t.outcome h.so h.ends (All-head (λ (t : TxnRecord ℕ). HasUsedPlaces left p t t.outcome) t txns u))
        (first txns (All-tail (IsOf (AsksFew left p)) t txns s) (All-tail (λ (t : TxnRecord ℕ). HasUsedPlaces left p t t.outcome) t txns u))

    writes : (txns : List (TxnRecord ℕ)) → All (IsOf (AsksFew left p)) txns → All (λ t. HasUsedPlaces left p t t.outcome) txns → All (λ t. (keys : ℕ) → t.outcome ≡ Aborted (WritesFull keys) → ⊥) txns
    writes [] s u = All-nil _
    writes (t ∷ txns) s u = All-cons (λ (t : TxnRecord ℕ). (keys : ℕ) → t.outcome ≡ Aborted (WritesFull keys) → ⊥) t txns
        (few_keys left p t (All-head (IsOf (AsksFew left p)) t txns s) (All-head (λ (t : TxnRecord ℕ). HasUsedPlaces left p t t.outcome) t txns u))
        (writes txns (All-tail (IsOf (AsksFew left p)) t txns s) (All-tail (λ (t : TxnRecord ℕ). HasUsedPlaces left p t t.outcome) t txns u))

pub lone_is_let_in : LoneIsLetIn
lone_is_let_in beat p epoch left client script acts d may few allowed run served =
    let_in left p (records acts) (of_script (AsksFew left p) script (records acts) few served) (lone_uses_places beat p epoch left client acts d left may allowed run (omega arith))
