-- The call that is next where a runner stands.
use Rattle.std.proofs.Common.{◌≡◌, ◌≤◌, ℕ, zero, suc, Bool, true, false, if◌then◌else◌, List, [], ◌∷◌, ◌++◌, length, take, drop, Option, Some, None, refl, sym, ap, subst, ◌∙◌, append-nil, inl, inr, ⊎_elim, arith, ℤ}
use Rattle.std.specs.Prelude.{slice_get, is_some, ◌⊎◌}
use Rattle.std.proofs.lemmas.Bool.{false≢true}
use Rattle.std.proofs.lemmas.List.{take-append-drop}
use Rattle.ob_base.specs.declared.op.Op.{Op}
use Rattle.ob_base.specs.declared.op.Op.TheVariants as op
use Rattle.ob_base.specs.declared.fault.Fault.TheVariants.{Memory}
use Rattle.ob_order.specs.Order.{write_op}
use Rattle.ob_desk.specs.Desk as desk
use Rattle.ob_desk.specs.Desk.{Call, Reply}
use Rattle.ob_desk.specs.declared.calls.Txn.{Txn}
use Rattle.ob_session.specs.Clients.{Told, told_of, has_signed_off, was_refused}
use Rattle.ob_script.specs.declared.line.Ask.{Ask}
use Rattle.ob_script.specs.declared.line.Ask.TheVariants as ask
use Rattle.ob_script.specs.declared.line.Ending.{Ending}
use Rattle.ob_script.specs.declared.line.Ending.TheVariants as ending
use Rattle.ob_script.specs.Script.{ScriptTxn}
use Rattle.ob_runner.specs.declared.place.Place.{Place}
use Rattle.ob_runner.specs.declared.place.Place.TheVariants as place
use Rattle.ob_runner.specs.declared.place.Read.{Read}
use Rattle.ob_runner.specs.Meaning.{Meets, MeetsNoSum}
use Rattle.ob_runner.specs.Places.{RunnerState, ask_with, IsReading, HasRead, IsPlacedIn, MeetsAsks, IsAtTxnEnd, IsToAbort, ArePast, Fits, takes_memory}
use Rattle.ob_runner.specs.Turns.{ask_call, sum_call, end_call, work_call, txn_call, script_call, script_next, TakesMemory, MakesCall, poll_or}
use Rattle.ob_runner.proofs.Meetings.{drop_item}
use Rattle.ob_runner.proofs.Works.{Works, works}

-- ---- in the asks of a transaction

-- operations that meet the first asks have no part in the call for the others
met_call : (x : Txn) (end : Ending) (met left : List Ask) (these more : List (Op ℕ)) → Meets met these → work_call x end (met ++ left) (these ++ more) ≡ work_call x end left more
met_call x end [] left these more met = ap (λ (os : List (Op ℕ)). work_call x end left (os ++ more)) met
met_call x end (ask.Get key ∷ asks) left these more (first, rest, parts, (reply, source, is), met) =
    ap (λ (os : List (Op ℕ)). work_call x end (ask.Get key ∷ (asks ++ left)) (os ++ more)) (parts ∙ ap (λ (os : List (Op ℕ)). os ++ rest) is) ∙ met_call x end asks left rest more met
met_call x end (ask.Put key value ∷ asks) left these more (first, rest, parts, is, met) =
    ap (λ (os : List (Op ℕ)). work_call x end (ask.Put key value ∷ (asks ++ left)) (os ++ more)) (parts ∙ ap (λ (os : List (Op ℕ)). os ++ rest) is) ∙ met_call x end asks left rest more met
met_call x end (ask.Del key ∷ asks) left these more (first, rest, parts, is, met) =
    ap (λ (os : List (Op ℕ)). work_call x end (ask.Del key ∷ (asks ++ left)) (os ++ more)) (parts ∙ ap (λ (os : List (Op ℕ)). os ++ rest) is) ∙ met_call x end asks left rest more met
met_call x end (ask.Add key amount ∷ asks) left these more (first, rest, parts, (reply, source, new, sum, is), met) =
    ap (λ (os : List (Op ℕ)). work_call x end (ask.Add key amount ∷ (asks ++ left)) (os ++ more)) (parts ∙ ap (λ (os : List (Op ℕ)). os ++ rest) is) ∙ met_call x end asks left rest more met

first_call : (x : Txn) (end : Ending) (a : Ask) (asks : List Ask) → work_call x end (a ∷ asks) [] ≡ ask_call x a
first_call x end (ask.Get key) asks = refl
first_call x end (ask.Put key value) asks = refl
first_call x end (ask.Del key) asks = refl
first_call x end (ask.Add key amount) asks = refl

-- the same by the asks and the operations in two parts
parted_call : (x : Txn) (end : Ending) (asks met left : List Ask) (ops these more : List (Op ℕ)) → asks ≡ met ++ left → ops ≡ these ++ more → Meets met these → work_call x end asks ops ≡ work_call x end left more
parted_call x end asks met left ops these more split parts meets = rw (split, parts) (met_call x end met left these more meets)

-- the ask at an index is next
at_ask : (x : Txn) (end : Ending) (asks : List Ask) (i : ℕ) (a : Ask) (ops more : List (Op ℕ)) (these : List (Op ℕ)) → slice_get asks i ≡ Some a → Meets (take i asks) these → ops ≡ these ++ more → work_call x end asks ops ≡ work_call x end (a ∷ drop (suc i) asks) more
at_ask x end asks i a ops more these is meets parts =
    parted_call x end asks (take i asks) (a ∷ drop (suc i) asks) ops these more (sym (take-append-drop i asks) ∙ ap (λ (rest : List Ask). take i asks ++ rest) (drop_item asks i a is)) parts meets

ask_next : (x : Txn) (end : Ending) (asks : List Ask) (i : ℕ) (a : Ask) (ops : List (Op ℕ)) → slice_get asks i ≡ Some a → Meets (take i asks) ops → work_call x end asks ops ≡ ask_call x a
ask_next x end asks i a ops is meets = at_ask x end asks i a ops [] ops is meets (sym (append-nil ops)) ∙ first_call x end a (drop (suc i) asks)

-- all are met
whole_call : (x : Txn) (end : Ending) (asks : List Ask) (ops : List (Op ℕ)) → Meets asks ops → work_call x end asks ops ≡ end_call x end
whole_call x end asks ops meets = parted_call x end asks asks [] ops ops [] (sym (append-nil asks)) (sym (append-nil ops)) meets

-- the get of an add was answered
read_call : (x : Txn) (end : Ending) (asks : List Ask) (key : ℕ) (sum : Option (List ℕ)) (next : ℕ) (ops : List (Op ℕ)) → HasRead asks key sum next ops → work_call x end asks ops ≡ sum_call x key sum
read_call x end asks key sum next ops read = at_ask x end asks read.index (ask.Add key read.amount) ops (op.Get key read.found 0 ∷ []) read.these read.ask_is read.meets read.ops_are
    ∙ ap (λ (o : Option (List ℕ)). sum_call x key o) read.sum_is

-- and there is no sum
no_sum_call : (x : Txn) (end : Ending) (asks : List Ask) (ops : List (Op ℕ)) → MeetsNoSum asks ops → work_call x end asks ops ≡ desk.Abort x
no_sum_call x end asks ops m = let b = m.begun in
    parted_call x end asks m.met m.left ops m.these m.more m.asks_are m.ops_are m.meets
    ∙ ap (λ (qs : List Ask). work_call x end qs m.more) b.asks_are
    ∙ ap (λ (os : List (Op ℕ)). work_call x end (ask.Add b.key b.amount ∷ b.behind) os) b.ops_are
    ∙ ap (λ (o : Option (List ℕ)). sum_call x b.key o) m.no_sum

-- ---- a write that meets the asks so far

other_op : (key k : ℕ) (value reply : Option (List ℕ)) (source : ℕ) → write_op key value ≡ op.Get k reply source → ⊥
other_op key k None reply source is = cc is
other_op key k (Some v) reply source is = cc is

put_op : (x : Txn) (key k : ℕ) (value : Option (List ℕ)) (v : List ℕ) → write_op key value ≡ op.Put k v → ◌≡◌ {A = Call} (desk.Write x k (Some v)) (desk.Write x key value)
put_op x key k None v is = absurd (cc is)
put_op x key k (Some w) v is = cc is

del_op : (x : Txn) (key k : ℕ) (value : Option (List ℕ)) → write_op key value ≡ op.Del k → ◌≡◌ {A = Call} (desk.Write x k None) (desk.Write x key value)
del_op x key k None is = cc is
del_op x key k (Some w) is = absurd (cc is)

head_is : {A : Type 0} (x y : A) (xs ys : List A) → x ∷ xs ≡ y ∷ ys → x ≡ y
head_is x y xs ys is = cc is

tail_is : {A : Type 0} (x y : A) (xs ys : List A) → x ∷ xs ≡ y ∷ ys → xs ≡ ys
tail_is x y xs ys is = cc is

no_push : {A : Type 0} (xs : List A) (x : A) → xs ++ x ∷ [] ≡ [] → ⊥
no_push [] x is = cc is
no_push (y ∷ ys) x is = cc is

last_call : (x : Txn) (end : Ending) (key : ℕ) (value : Option (List ℕ)) (met left : List Ask) (ops : List (Op ℕ)) → Meets met (ops ++ write_op key value ∷ []) → work_call x end (met ++ left) ops ≡ desk.Write x key value
last_call x end key value [] left ops met = absurd (no_push ops (write_op key value) met)
last_call x end key value (ask.Get k ∷ asks) left [] (first, rest, parts, (reply, source, is), met) =
    absurd (other_op key k value reply source (head_is (write_op key value) (op.Get k reply source) [] rest (parts ∙ ap (λ (os : List (Op ℕ)). os ++ rest) is)))
last_call x end key value (ask.Get k ∷ asks) left (o ∷ ops) (first, rest, parts, (reply, source, is), met) =
    last_call x end key value asks left ops (subst (λ (os : List (Op ℕ)). Meets asks os) (sym (tail_is o (op.Get k reply source) (ops ++ write_op key value ∷ []) rest (parts ∙ ap (λ (os : List (Op ℕ)). os ++ rest) is))) met)
last_call x end key value (ask.Put k v ∷ asks) left [] (first, rest, parts, is, met) =
    put_op x key k value v (head_is (write_op key value) (op.Put k v) [] rest (parts ∙ ap (λ (os : List (Op ℕ)). os ++ rest) is))
last_call x end key value (ask.Put k v ∷ asks) left (o ∷ ops) (first, rest, parts, is, met) =
    last_call x end key value asks left ops (subst (λ (os : List (Op ℕ)). Meets asks os) (sym (tail_is o (op.Put k v) (ops ++ write_op key value ∷ []) rest (parts ∙ ap (λ (os : List (Op ℕ)). os ++ rest) is))) met)
last_call x end key value (ask.Del k ∷ asks) left [] (first, rest, parts, is, met) =
    del_op x key k value (head_is (write_op key value) (op.Del k) [] rest (parts ∙ ap (λ (os : List (Op ℕ)). os ++ rest) is))
last_call x end key value (ask.Del k ∷ asks) left (o ∷ ops) (first, rest, parts, is, met) =
    last_call x end key value asks left ops (subst (λ (os : List (Op ℕ)). Meets asks os) (sym (tail_is o (op.Del k) (ops ++ write_op key value ∷ []) rest (parts ∙ ap (λ (os : List (Op ℕ)). os ++ rest) is))) met)
last_call x end key value (ask.Add k amount ∷ asks) left [] (first, rest, parts, (reply, source, new, sum, is), met) =
    absurd (other_op key k value reply source (head_is (write_op key value) (op.Get k reply source) [] (op.Put k new ∷ rest) (parts ∙ ap (λ (os : List (Op ℕ)). os ++ rest) is)))
last_call x end key value (ask.Add k amount ∷ asks) left (o ∷ []) (first, rest, parts, (reply, source, new, sum, is), met) =
    let all : o ∷ write_op key value ∷ [] ≡ op.Get k reply source ∷ op.Put k new ∷ rest = parts ∙ ap (λ (os : List (Op ℕ)). os ++ rest) is in
    ap (λ (q : Op ℕ). work_call x end (ask.Add k amount ∷ (asks ++ left)) (q ∷ [])) (head_is o (op.Get k reply source) (write_op key value ∷ []) (op.Put k new ∷ rest) all)
    ∙ ap (λ (q : Option (List ℕ)). sum_call x k q) sum
    ∙ put_op x key k value new (head_is (write_op key value) (op.Put k new) [] rest (tail_is o (op.Get k reply source) (write_op key value ∷ []) (op.Put k new ∷ rest) all))
last_call x end key value (ask.Add k amount ∷ asks) left (o ∷ p ∷ ops) (first, rest, parts, (reply, source, new, sum, is), met) =
    let all : o ∷ p ∷ (ops ++ write_op key value ∷ []) ≡ op.Get k reply source ∷ op.Put k new ∷ rest = parts ∙ ap (λ (os : List (Op ℕ)). os ++ rest) is in
    ap (λ (q : Op ℕ). work_call x end (ask.Add k amount ∷ (asks ++ left)) (q ∷ p ∷ ops)) (head_is o (op.Get k reply source) (p ∷ (ops ++ write_op key value ∷ [])) (op.Put k new ∷ rest) all)
    ∙ last_call x end key value asks left ops (subst (λ (os : List (Op ℕ)). Meets asks os)
    (sym (tail_is p (op.Put k new) (ops ++ write_op key value ∷ []) rest (tail_is o (op.Get k reply source) (p ∷ (ops ++ write_op key value ∷ [])) (op.Put k new ∷ rest) all))) met)

write_call : (x : Txn) (end : Ending) (key : ℕ) (value : Option (List ℕ)) (asks : List Ask) (i : ℕ) (ops : List (Op ℕ)) → Meets (take i asks) (ops ++ write_op key value ∷ []) → work_call x end asks ops ≡ desk.Write x key value
write_call x end key value asks i ops met = ap (λ (qs : List Ask). work_call x end qs ops) (sym (take-append-drop i asks)) ∙ last_call x end key value (take i asks) (drop i asks) ops met

-- ---- in the transactions of a script

-- those that are over have no part in it
past_call : (client : ℕ) (txns rest : List ScriptTxn) (told now : List Told) → ArePast txns told → script_call client (txns ++ rest) (told ++ now) ≡ script_call client rest now
past_call client [] rest [] now past = refl
past_call client [] rest (u ∷ told) now past = absurd past
past_call client (q ∷ txns) rest [] now past = absurd past
past_call client (q ∷ txns) rest (u ∷ told) now (meant, (outcome, ended), past) =
    ap (λ o. if is_some o then script_call client (txns ++ rest) (told ++ now) else txn_call q u) ended ∙ past_call client txns rest told now past

-- by whether it signed off, and whether it was told that no more begin
abbrev next_at : ℕ → List ScriptTxn → List (Call × Reply) → Bool → Bool → Option Call
next_at client script said signed refused = if signed then None else Some (if refused then desk.SignOff client else script_call client script (told_of said))

pub over_next : (client : ℕ) (script : List ScriptTxn) (said : List (Call × Reply)) → has_signed_off said ≡ true → script_next client script said ≡ None
over_next client script said signed = ap (λ (b : Bool). next_at client script said b (was_refused said)) signed

-- before the sign-off
open_call : (client : ℕ) (script : List ScriptTxn) (said : List (Call × Reply)) (b : Bool) → has_signed_off said ≡ false → was_refused said ≡ b → script_next client script said ≡ Some (if b then desk.SignOff client else script_call client script (told_of said))
open_call client script said b here refused = ap (λ (s : Bool). next_at client script said s (was_refused said)) here ∙ ap (λ (q : Bool). next_at client script said false q) refused

-- between transactions
free_call : (r : RunnerState) (said : List (Call × Reply)) → has_signed_off said ≡ false → was_refused said ≡ false → ArePast (take r.at r.script) (told_of said) → script_next r.client r.script said ≡ Some (script_call r.client (drop r.at r.script) [])
free_call r said here none past = open_call r.client r.script said false here none
    ∙ ap (λ (c : Call). Some c) (ap (λ (txns : List ScriptTxn). script_call r.client txns (told_of said)) (sym (take-append-drop r.at r.script))
    ∙ ap (λ (told : List Told). script_call r.client (take r.at r.script ++ drop r.at r.script) told) (sym (append-nil (told_of said)))
    ∙ past_call r.client (take r.at r.script) (drop r.at r.script) (told_of said) [] past)

pub begin_next : (r : RunnerState) (said : List (Call × Reply)) (s : ScriptTxn) → slice_get r.script r.at ≡ Some s → has_signed_off said ≡ false → was_refused said ≡ false → ArePast (take r.at r.script) (told_of said) → script_next r.client r.script said ≡ Some (desk.Begin r.client)
begin_next r said s is here none past = free_call r said here none past ∙ ap (λ (txns : List ScriptTxn). Some (script_call r.client txns [])) (drop_item r.script r.at s is)

dropped_all : {A : Type 0} (xs : List A) (i : ℕ) → length xs ≤ i → drop i xs ≡ []
dropped_all [] zero le = refl
dropped_all [] (suc i) le = refl
dropped_all (x ∷ xs) zero le = absurd (omega (arith, le))
dropped_all (x ∷ xs) (suc i) le = dropped_all xs i (omega (arith, le))

pub sign_off_next : (r : RunnerState) (said : List (Call × Reply)) → has_signed_off said ≡ false → ArePast (take r.at r.script) (told_of said) → (was_refused said ≡ true) ⊎ ((was_refused said ≡ false) × (length r.script ≤ r.at)) → script_next r.client r.script said ≡ Some (desk.SignOff r.client)
sign_off_next r said here past (inl refused) = open_call r.client r.script said true here refused
sign_off_next r said here past (inr (none, whole)) = free_call r said here none past ∙ ap (λ (txns : List ScriptTxn). Some (script_call r.client txns [])) (dropped_all r.script r.at whole)

-- ---- in the current transaction

module _ {r : RunnerState} {said : List (Call × Reply)} {x : Txn} {waiting : Option ℕ} {asked : Bool} {P : ScriptTxn → Told → Type 0} (w : Works r said x waiting asked P) where
  in_txn : script_next r.client r.script said ≡ Some (txn_call w.s w.t)
  in_txn = open_call r.client r.script said false w.not_signed w.not_refused
      ∙ ap (λ (c : Call). Some c) (ap (λ (txns : List ScriptTxn). script_call r.client txns (told_of said)) (sym (take-append-drop r.at r.script) ∙ ap (λ (rest : List ScriptTxn). take r.at r.script ++ rest) (drop_item r.script r.at w.s w.txn_is))
      ∙ ap (λ (told : List Told). script_call r.client (take r.at r.script ++ w.s ∷ drop (suc r.at) r.script) told) w.told_is
      ∙ past_call r.client (take r.at r.script) (w.s ∷ drop (suc r.at) r.script) w.before (w.t ∷ []) w.past
      ∙ ap (λ o. if is_some o then script_call r.client (drop (suc r.at) r.script) [] else txn_call w.s w.t) w.current.not_ended)

  -- it asked to commit
  pub settled_next : asked ≡ true → script_next r.client r.script said ≡ Some (desk.Settled x)
  settled_next is = in_txn ∙ ap (λ (b : Bool). Some (if b then desk.Settled w.t.txn else poll_or w.t.txn w.t.waiting (work_call w.t.txn w.s.ending w.s.asks w.t.ops))) (w.current.asked_is ∙ is)
      ∙ ap (λ (y : Txn). Some (desk.Settled y)) w.current.txn_is

  -- its get waits
  pub poll_next : (key : ℕ) → asked ≡ false → waiting ≡ Some key → script_next r.client r.script said ≡ Some (desk.Poll x)
  poll_next key is some = in_txn ∙ ap (λ (b : Bool). Some (if b then desk.Settled w.t.txn else poll_or w.t.txn w.t.waiting (work_call w.t.txn w.s.ending w.s.asks w.t.ops))) (w.current.asked_is ∙ is)
      ∙ ap (λ (o : Option ℕ). Some (poll_or w.t.txn o (work_call w.t.txn w.s.ending w.s.asks w.t.ops))) (w.current.waiting_is ∙ some)
      ∙ ap (λ (y : Txn). Some (desk.Poll y)) w.current.txn_is

  -- it goes on
  pub work_next : (call : Call) → asked ≡ false → waiting ≡ None → work_call x w.s.ending w.s.asks w.t.ops ≡ call → script_next r.client r.script said ≡ Some call
  work_next call is none work = in_txn ∙ ap (λ (b : Bool). Some (if b then desk.Settled w.t.txn else poll_or w.t.txn w.t.waiting (work_call w.t.txn w.s.ending w.s.asks w.t.ops))) (w.current.asked_is ∙ is)
      ∙ ap (λ (o : Option ℕ). Some (poll_or w.t.txn o (work_call w.t.txn w.s.ending w.s.asks w.t.ops))) (w.current.waiting_is ∙ none)
      ∙ ap (λ (y : Txn). Some (work_call y w.s.ending w.s.asks w.t.ops)) w.current.txn_is
      ∙ ap (λ (c : Call). Some c) work

pub get_next : {r : RunnerState} {said : List (Call × Reply)} (x : Txn) (read : Read) → Works r said x None false (IsReading x None read) → script_next r.client r.script said ≡ Some (desk.GetKey x read.key)
get_next x read w = work_next w (desk.GetKey x read.key) refl refl (by_ask read.key read.amount w.holds.ask_is)
  where
    by_ask : (key : ℕ) (amount : Option ℤ) → slice_get w.s.asks w.holds.index ≡ Some (ask_with key amount) → work_call x w.s.ending w.s.asks w.t.ops ≡ desk.GetKey x key
    by_ask key None is = ask_next x w.s.ending w.s.asks w.holds.index (ask.Get key) w.t.ops is w.holds.meets
    by_ask key (Some amount) is = ask_next x w.s.ending w.s.asks w.holds.index (ask.Add key amount) w.t.ops is w.holds.meets

pub write_next : {r : RunnerState} {said : List (Call × Reply)} (x : Txn) (key : ℕ) (value : Option (List ℕ)) (behind : ℕ) → Works r said x None false (MeetsAsks (write_op key value) behind) → script_next r.client r.script said ≡ Some (desk.Write x key value)
write_next x key value behind w = work_next w (desk.Write x key value) refl refl (write_call x w.s.ending key value w.s.asks behind w.t.ops w.holds)

pub commit_next : {r : RunnerState} {said : List (Call × Reply)} (x : Txn) → Works r said x None false (IsAtTxnEnd ending.Commit) → script_next r.client r.script said ≡ Some (desk.Commit x)
commit_next x w = work_next w (desk.Commit x) refl refl (whole_call x w.s.ending w.s.asks w.t.ops w.holds.0 ∙ ap (λ (e : Ending). end_call x e) w.holds.1)

pub abort_next : {r : RunnerState} {said : List (Call × Reply)} (x : Txn) → Works r said x None false IsToAbort → script_next r.client r.script said ≡ Some (desk.Abort x)
abort_next x w = work_next w (desk.Abort x) refl refl (⊎_elim
    (λ end. whole_call x w.s.ending w.s.asks w.t.ops end.0 ∙ ap (λ (e : Ending). end_call x e) end.1)
    (λ none. no_sum_call x w.s.ending w.s.asks w.t.ops none)
    w.holds)

-- ---- a call that takes memory

-- it takes memory, and is next
pub record IsHeavy (next : Option Call) : Type 0 where
  pub call : Call
  pub is : next ≡ Some call
  pub takes : TakesMemory call

ask_heavy : (x : Txn) (a : Ask) → TakesMemory (ask_call x a)
ask_heavy x (ask.Get key) = tt
ask_heavy x (ask.Put key value) = tt
ask_heavy x (ask.Del key) = tt
ask_heavy x (ask.Add key amount) = tt

heavy_ask : (asks : List Ask) (i : ℕ) → is_some (slice_get asks i) ≡ true → (a : Ask) × (slice_get asks i ≡ Some a)
heavy_ask asks i some = by (slice_get asks i) refl some
  where
    by : (o : Option Ask) → slice_get asks i ≡ o → is_some o ≡ true → (a : Ask) × (slice_get asks i ≡ Some a)
    by None is some = absurd (false≢true some)
    by (Some a) is some = (a, is)

begin_heavy : (client keys : ℕ) (script : List ScriptTxn) (at : ℕ) (said : List (Call × Reply)) (o : Option ScriptTxn) → slice_get script at ≡ o → is_some o ≡ true → Fits (record { client = client; keys = keys; script = script; at = at; place = place.Between }) said
    → IsHeavy (script_next client script said)
begin_heavy client keys script at said None is some fits = absurd (false≢true some)
begin_heavy client keys script at said (Some s) is some fits =
    let r : RunnerState = record { client = client; keys = keys; script = script; at = at; place = place.Between } in
    let told_is : told_of said ≡ fits.before = fits.told_is ∙ ap (λ (now : List Told). fits.before ++ now) fits.placed ∙ append-nil fits.before in
    record {
      call = desk.Begin client;
      is = begin_next r said s is fits.signed_off (fits.refused refl) (subst (λ (told : List Told). ArePast (take at script) told) (sym told_is) fits.past);
      takes = tt;
    }

heavy_at : (client keys : ℕ) (script : List ScriptTxn) (at : ℕ) (p : Place) (said : List (Call × Reply)) → takes_memory p (slice_get script at) ≡ true → Fits (record { client = client; keys = keys; script = script; at = at; place = p }) said
    → IsHeavy (script_next client script said)
heavy_at client keys script at place.Between said takes fits = begin_heavy client keys script at said (slice_get script at) refl takes fits
heavy_at client keys script at (place.Next x i) said takes fits =
    let w = works (record { client = client; keys = keys; script = script; at = at; place = place.Next x i }) said x (IsPlacedIn (place.Next x i)) fits refl (λ s t is placed. placed) in
    let (a, is) = heavy_ask w.s.asks i (sym (ap (λ (o : Option ScriptTxn). takes_memory (place.Next x i) o) w.txn_is) ∙ takes) in
    record { call = ask_call x a; is = work_next w (ask_call x a) refl refl (ask_next x w.s.ending w.s.asks i a w.t.ops is w.holds.1); takes = ask_heavy x a }
heavy_at client keys script at (place.Adding x key (Some new) next) said takes fits =
    let w = works (record { client = client; keys = keys; script = script; at = at; place = place.Adding x key (Some new) next }) said x (IsPlacedIn (place.Adding x key (Some new) next)) fits refl (λ s t is placed. placed) in
    record { call = desk.Write x key (Some new); is = work_next w (desk.Write x key (Some new)) refl refl (read_call x w.s.ending w.s.asks key (Some new) next w.t.ops w.holds.1); takes = tt }
heavy_at client keys script at (place.Adding x key None next) said takes fits = absurd (false≢true takes)
heavy_at client keys script at (place.Waiting x read) said takes fits = absurd (false≢true takes)
heavy_at client keys script at (place.Asked x) said takes fits = absurd (false≢true takes)
heavy_at client keys script at place.Stopped said takes fits = absurd (false≢true takes)
heavy_at client keys script at place.Over said takes fits = absurd (false≢true takes)

pub heavy : (r : RunnerState) (said : List (Call × Reply)) → takes_memory r.place (slice_get r.script r.at) ≡ true → Fits r said → IsHeavy (script_next r.client r.script said)
heavy r said takes fits = heavy_at r.client r.keys r.script r.at r.place said takes fits

-- ---- turns

-- the next call was made
pub makes_it : (next : Option Call) (call : Call) (reply : Reply) → next ≡ Some call → MakesCall next ((call, reply) ∷ [])
makes_it next call reply is = subst (λ (o : Option Call). MakesCall o ((call, reply) ∷ [])) (sym is) (inl (reply, refl))

-- memory was wanting for it
pub makes_stop : (next : Option Call) → IsHeavy next → MakesCall next ((desk.Stop Memory, desk.Done) ∷ [])
makes_stop next h = subst (λ (o : Option Call). MakesCall o ((desk.Stop Memory, desk.Done) ∷ [])) (sym h.is) (inr (h.takes, refl))
