-- Transactions that each add 1 to a key: what one of them does to a map of counts.
use Rattle.std.proofs.Common.{◌≡◌, ℕ, zero, suc, ◌+◌, ◌<◌, ◌^◌, ◌==◌, Bool, true, false, cond, if◌then◌else◌, List, [], ◌∷◌, ◌++◌, Option, None, Some, refl, sym, ap, ◌∙◌, subst, inl, inr, ⊎_elim, arith, nat_cmp, pos}
use Rattle.std.specs.Prelude.{FitsSigned, ◌+ℤ◌, option_and_then}
use Rattle.std.specs.Int.{w64}
use Rattle.std.specs.List.{count_by}
use Rattle.std.specs.Prelude.{map}
use Rattle.std.proofs.lemmas.List.Sums.{sum_by-cons}
use Rattle.std.specs.Fmt.{decimal}
use Rattle.std.specs.Cmp.{nat_cmp_total, unsigned_tied}
use Rattle.std.specs.FinMap as finite
use Rattle.std.specs.FinMap.{get-insert}
use Rattle.std.proofs.lemmas.Bool.{cases_eq, false≢true, lt-ltb, ne_eqb, eq-eqb}
use Rattle.std.proofs.lemmas.Option.{none-some, same_Some}
use Rattle.ob_base.specs.declared.op.Op.{Op}
use Rattle.ob_base.specs.declared.op.Op.TheVariants as op
use Rattle.ob_serial.specs.Serial.{Map, Replays, after_ops}
use Rattle.ob_serial.specs.declared.records.Outcome.{Outcome}
use Rattle.ob_serial.specs.declared.records.Outcome.TheVariants.{Committed, Aborted, Unsure}
use Rattle.ob_serial.specs.declared.records.Why.TheVariants.{Conflict, Depends, ReadsFull, WritesFull, ShareReads, ShareWrites, EpochEnd, Asked, Stopped}
use Rattle.ob_script.specs.declared.line.Ask.{Ask}
use Rattle.ob_script.specs.declared.line.Ask.TheVariants.{Get, Add}
use Rattle.ob_script.specs.declared.line.Ending.TheVariants.{Commit, Abort}
use Rattle.ob_script.specs.Script.{ScriptTxn}
use Rattle.ob_script.proofs.Amounts.{integer_only}
use Rattle.ob_runner.specs.Meaning.{IsOpsOf, Meets, MeetsNoSum, sum_of, spelled}
use Rattle.ob_outcomes.specs.Served.{EndsAs, IsLonely}
use Rattle.ob_outcomes.specs.Lone.{IsTurnedAway}
use Rattle.ob_outcomes.specs.Sums.{AddsAreCounted, IsAdder, adds_in, adds_to, count_value, HoldsCounts}

-- ---- the next number

spelled_small : (n : ℕ) → n < 2 ^ 63 → spelled (pos n) ≡ Some (decimal n)
spelled_small n low = ap (λ b. if b then Some (decimal n) else None) (lt-ltb n (2 ^ 63) low)

-- a count has a next one
pub sum_next : (n : ℕ) → n < 2 ^ 62 → sum_of (count_value n) (pos 1) ≡ Some (decimal (suc n))
sum_next zero low = spelled_small 1 (omega arith)
sum_next (suc n) low =
    let fits : FitsSigned w64 (pos (suc n)) = record { sfits = omega (arith, low) } in
    let next : suc n + 1 ≡ suc (suc n) = omega arith in
    ap (option_and_then (λ z. spelled (z +ℤ pos 1))) (integer_only (pos (suc n)) fits)
    ∙ spelled_small (suc n + 1) (omega (arith, low))
    ∙ ap (λ k. Some (decimal k)) next

-- ---- what it has done

record Did (read added : ℕ) (ops : List (Op ℕ)) : Type 0 where
  pub first_reply : Option (List ℕ)
  pub first_source : ℕ
  pub reply : Option (List ℕ)
  pub source : ℕ
  pub new : List ℕ
  pub sum : sum_of reply (pos 1) ≡ Some new
  pub are : ops ≡ op.Get read first_reply first_source ∷ op.Get added reply source ∷ op.Put added new ∷ []

did_all : (read added : ℕ) (ops : List (Op ℕ)) → Meets (Get read ∷ Add added (pos 1) ∷ []) ops → Did read added ops
did_all read added ops (these, more, is, (reply, source, one), (adds, behind, split, (value, from, new, sum, two), none)) = record {
  first_reply = reply;
  first_source = source;
  reply = value;
  source = from;
  new = new;
  sum = sum;
  are = is ∙ ap (λ x. x ++ more) one ∙ ap (λ x. op.Get read reply source ∷ x) (split ∙ ap (λ x. x ++ behind) two ∙ ap (λ x. op.Get added value from ∷ op.Put added new ∷ x) none);
}

record NoSum (read added : ℕ) (ops : List (Op ℕ)) : Type 0 where
  pub first_reply : Option (List ℕ)
  pub first_source : ℕ
  pub reply : Option (List ℕ)
  pub source : ℕ
  pub no_sum : sum_of reply (pos 1) ≡ None
  pub are : ops ≡ op.Get read first_reply first_source ∷ op.Get added reply source ∷ []

heads : (x y : Ask) (xs ys : List Ask) → ◌≡◌ {A = List Ask} (x ∷ xs) (y ∷ ys) → (x ≡ y) × (xs ≡ ys)
heads x y xs ys e = (cc, cc)

no_end : (xs : List Ask) (y : Ask) (ys : List Ask) → [] ≡ xs ++ y ∷ ys → ⊥
no_end [] y ys e = cc
no_end (x ∷ xs) y ys e = cc

did_no_sum : (read added : ℕ) (ops : List (Op ℕ)) → MeetsNoSum (Get read ∷ Add added (pos 1) ∷ []) ops → NoSum read added ops
did_no_sum read added ops h = by h.met (h.asks_are ∙ ap (λ l. h.met ++ l) h.begun.asks_are) h.meets
  where
    by : (met : List Ask) → Get read ∷ Add added (pos 1) ∷ [] ≡ met ++ Add h.begun.key h.begun.amount ∷ h.begun.behind → Meets met h.these → NoSum read added ops
    by [] e meets = let first = heads (Get read) (Add h.begun.key h.begun.amount) (Add added (pos 1) ∷ []) h.begun.behind e in let f : Get read ≡ Add h.begun.key h.begun.amount = first.0 in absurd (cc)
    by (a ∷ []) e (these, more, is, one, none) =
        let first = heads (Get read) a (Add added (pos 1) ∷ []) (Add h.begun.key h.begun.amount ∷ h.begun.behind) e in
        let second = heads (Add added (pos 1)) (Add h.begun.key h.begun.amount) [] h.begun.behind first.1 in
        let s : Add added (pos 1) ≡ Add h.begun.key h.begun.amount = second.0 in
        let key : added ≡ h.begun.key = cc in
        let amount : pos 1 ≡ h.begun.amount = cc in
        let got = subst (λ (x : Ask). IsOpsOf x these) (sym first.0) one in
        record {
          first_reply = got.0;
          first_source = got.1;
          reply = h.begun.reply;
          source = h.begun.source;
          no_sum = ap (sum_of h.begun.reply) amount ∙ h.no_sum;
          are = h.ops_are ∙ ap (λ x. x ++ h.more) (is ∙ ap (λ x. x ++ more) got.2 ∙ ap (λ x. op.Get read got.0 got.1 ∷ x) none)
              ∙ ap (λ x. op.Get read got.0 got.1 ∷ x) (h.begun.ops_are ∙ ap (λ k. op.Get k h.begun.reply h.begun.source ∷ []) (sym key));
        }
    by (a ∷ b ∷ met) e meets =
        let first = heads (Get read) a (Add added (pos 1) ∷ []) (b ∷ (met ++ Add h.begun.key h.begun.amount ∷ h.begun.behind)) e in
        let second = heads (Add added (pos 1)) b [] (met ++ Add h.begun.key h.begun.amount ∷ h.begun.behind) first.1 in
        absurd (no_end met (Add h.begun.key h.begun.amount) h.begun.behind second.1)

-- ---- on a map of counts

counts_after : (m : Map nat_cmp) (before : ℕ → ℕ) (read added : ℕ) (ops : List (Op ℕ)) → HoldsCounts m before → before added < 2 ^ 62 → Replays nat_cmp m ops → Did read added ops
    → HoldsCounts (after_ops nat_cmp m ops) (λ key. before key + adds_in key (Get read ∷ Add added (pos 1) ∷ []))
counts_after m before read added ops holds low replays d key =
    let found = subst (Replays nat_cmp m) d.are replays in
    let reply : count_value (before added) ≡ d.reply = sym (holds added) ∙ found.1.0 in
    let new : d.new ≡ decimal (suc (before added)) = same_Some d.new (decimal (suc (before added))) (sym d.sum ∙ ap (λ x. sum_of x (pos 1)) (sym reply) ∙ sum_next (before added) low) in
    ap (λ (os : List (Op ℕ)). finite.get (after_ops nat_cmp m os) key) d.are
    ∙ get-insert nat_cmp_total m added d.new key
    ∙ ap (λ b. cond b (Some d.new) (finite.get m key)) (unsigned_tied key added)
    ∙ ⊎_elim (here d.new new) (other d.new) (cases_eq key added)
  where
    here : (bytes : List ℕ) → bytes ≡ decimal (suc (before added)) → key ≡ added → cond (key == added) (Some bytes) (finite.get m key) ≡ count_value (before key + ((if added == key then 1 else 0) + 0))
    here bytes is same =
        let yes_here : (key == added) ≡ true = eq-eqb key added same in
        let yes_there : (added == key) ≡ true = eq-eqb added key (sym same) in
        let n : suc (before added) ≡ before key + ((if added == key then 1 else 0) + 0) = counted_one (before key) (before added) (added == key) (ap before same) yes_there in
        ap (λ b. cond b (Some bytes) (finite.get m key)) yes_here ∙ ap Some is ∙ ap count_value n
      where
        counted_one : (x y : ℕ) (b : Bool) → x ≡ y → b ≡ true → suc y ≡ x + ((if b then 1 else 0) + 0)
        counted_one x y true e up = omega (arith, e)
        counted_one x y false e up = absurd (false≢true up)

    other : (bytes : List ℕ) → (key ≡ added → ⊥) → cond (key == added) (Some bytes) (finite.get m key) ≡ count_value (before key + ((if added == key then 1 else 0) + 0))
    other bytes apart =
        ap (λ b. cond b (Some bytes) (finite.get m key)) (ne_eqb key added apart)
        ∙ holds key
        ∙ ap count_value (let same : before key ≡ before key + (0 + 0) = omega arith in same ∙ ap (λ b. before key + ((if b then 1 else 0) + 0)) (sym (ne_eqb added key (λ e. apart (sym e)))))

never_no_sum : (m : Map nat_cmp) (before : ℕ → ℕ) (read added : ℕ) (ops : List (Op ℕ)) → HoldsCounts m before → before added < 2 ^ 62 → Replays nat_cmp m ops → NoSum read added ops → ⊥
never_no_sum m before read added ops holds low replays d =
    let found = subst (Replays nat_cmp m) d.are replays in
    let reply : count_value (before added) ≡ d.reply = sym (holds added) ∙ found.1.0 in
    none-some (decimal (suc (before added))) (sym d.no_sum ∙ ap (λ x. sum_of x (pos 1)) (sym reply) ∙ sum_next (before added) low)

-- It is committed, and the map behind it holds the next counts.
pub record Advances (m : Map nat_cmp) (before : ℕ → ℕ) (asked : ScriptTxn) (ops : List (Op ℕ)) (outcome : Outcome ℕ) : Type 0 where
  pub committed : outcome ≡ Committed
  pub holds : HoldsCounts (after_ops nat_cmp m ops) (λ key. before key + adds_in key asked.asks)

pub advances : (m : Map nat_cmp) (before : ℕ → ℕ) (asked : ScriptTxn) (ops : List (Op ℕ)) (outcome : Outcome ℕ) → HoldsCounts m before → ((key : ℕ) → before key < 2 ^ 62) → Replays nat_cmp m ops → IsAdder asked
    → EndsAs asked ops outcome → IsLonely outcome → (IsTurnedAway outcome → ⊥) → Advances m before asked ops outcome
advances m before asked ops Committed holds low replays adder (met, end) lonely away = record {
  committed = refl;
  holds = subst (λ (l : List Ask). HoldsCounts (after_ops nat_cmp m ops) (λ key. before key + adds_in key l)) (sym adder.asks_are)
      (counts_after m before adder.read adder.added ops holds (low adder.added) replays (did_all adder.read adder.added ops (subst (λ (l : List Ask). Meets l ops) adder.asks_are met)));
}
advances m before asked ops (Aborted Asked) holds low replays adder (inl (met, end)) lonely away = let f : Commit ≡ Abort = sym adder.ending_is ∙ end in absurd (cc)
advances m before asked ops (Aborted Asked) holds low replays adder (inr none) lonely away =
    absurd (never_no_sum m before adder.read adder.added ops holds (low adder.added) replays (did_no_sum adder.read adder.added ops (subst (λ (l : List Ask). MeetsNoSum l ops) adder.asks_are none)))
advances m before asked ops (Aborted (ReadsFull queued left)) holds low replays adder ends lonely away = absurd (away tt)
advances m before asked ops (Aborted (WritesFull keys)) holds low replays adder ends lonely away = absurd (away tt)
advances m before asked ops (Aborted (ShareReads keys)) holds low replays adder ends lonely away = absurd (away tt)
advances m before asked ops (Aborted (ShareWrites keys)) holds low replays adder ends lonely away = absurd (away tt)
advances m before asked ops (Aborted (Conflict key reader)) holds low replays adder ends lonely away = absurd lonely
advances m before asked ops (Aborted (Depends on)) holds low replays adder ends lonely away = absurd lonely
advances m before asked ops (Aborted EpochEnd) holds low replays adder ends lonely away = absurd lonely
advances m before asked ops (Aborted (Stopped fault)) holds low replays adder ends lonely away = absurd lonely
advances m before asked ops (Unsure epoch) holds low replays adder ends lonely away = absurd lonely

-- ---- how often a key is added to

pub adds_are_counted : AddsAreCounted
adds_are_counted read added make [] key are = refl
adds_are_counted read added make (i ∷ numbers) key are =
    let here : adds_in key (make i).asks ≡ (if added i == key then 1 else 0) + 0 = ap (adds_in key) (are i) in
    let rest = adds_are_counted read added make numbers key are in
    let count : count_by (λ j. added j == key) (i ∷ numbers) ≡ cond (added i == key) 1 0 + count_by (λ j. added j == key) numbers = sum_by-cons (λ j. cond (added j == key) 1 0) i numbers in
    both (added i == key) (adds_in key (make i).asks) (adds_to key (map make numbers)) (count_by (λ j. added j == key) numbers) (count_by (λ j. added j == key) (i ∷ numbers)) here rest count
  where
    both : (b : Bool) (x y z all : ℕ) → x ≡ (if b then 1 else 0) + 0 → y ≡ z → all ≡ cond b 1 0 + z → x + y ≡ all
    both true x y z all e f g = omega (arith, e, f, g)
    both false x y z all e f g = omega (arith, e, f, g)
