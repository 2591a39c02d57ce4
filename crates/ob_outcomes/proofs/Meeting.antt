-- What a client was told, what its script means, and what the records tell of it.
use Rattle.std.proofs.Common.{◌≡◌, ◌∙◌, ◌⊎◌, ◌++◌, ℕ, List, [], ◌∷◌, Option, sym, subst, inl, inr, refl, ap}
use Rattle.ob_base.specs.declared.op.Op.{Op}
use Rattle.ob_base.specs.declared.op.Op.TheVariants as op
use Rattle.ob_serial.specs.declared.records.Outcome.{Outcome}
use Rattle.ob_serial.specs.declared.records.Outcome.TheVariants.{Committed, Aborted, Unsure}
use Rattle.ob_serial.specs.declared.records.Why.TheVariants.{Conflict, Depends, ReadsFull, WritesFull, ShareReads, ShareWrites, EpochEnd, Asked, Stopped}
use Rattle.ob_serial.specs.Serial.{TxnRecord}
use Rattle.ob_session.specs.Clients.{Told}
use Rattle.ob_session.specs.Records.{unsourced, all_unsourced, IsToldEnd, TellFirst, TellAll}
use Rattle.ob_script.specs.Script.{ScriptTxn}
use Rattle.ob_runner.specs.Meaning.{IsMeant, IsOpsOf, Meets, MeetsFront, MeetsNoSum, IsAddsGet, MeantFirst, MeantAll}
use Rattle.ob_script.specs.declared.line.Ask.{Ask}
use Rattle.ob_script.specs.declared.line.Ask.TheVariants.{Get, Put, Del, Add}
use Rattle.ob_script.specs.declared.line.Ending.TheVariants.{Abort}
use Rattle.ob_outcomes.specs.Served.{EndsAs, ServedFirst, ServedAll}
use Rattle.ob_outcomes.specs.ScriptLaws.{ToldIsAsked}

-- ---- a source says nothing of what was asked for

-- operations that are these without their sources
record Cut (ops these more : List (Op ℕ)) : Type 0 where
  pub front : List (Op ℕ)
  pub behind : List (Op ℕ)
  pub ops_are : ops ≡ front ++ behind
  pub front_is : all_unsourced front ≡ these
  pub behind_is : all_unsourced behind ≡ more

heads : (x y : Op ℕ) (xs ys : List (Op ℕ)) → ◌≡◌ {A = List (Op ℕ)} (x ∷ xs) (y ∷ ys) → (x ≡ y) × (xs ≡ ys)
heads x y xs ys is = (cc is, cc is)

joined : (x y : Op ℕ) (xs ys : List (Op ℕ)) → x ≡ y → xs ≡ ys → ◌≡◌ {A = List (Op ℕ)} (x ∷ xs) (y ∷ ys)
joined x y xs ys p q = cc

cut : (ops these more : List (Op ℕ)) → all_unsourced ops ≡ these ++ more → Cut ops these more
cut ops [] more is = record { front = []; behind = ops; ops_are = refl; front_is = refl; behind_is = is }
cut [] (o ∷ these) more is = absurd (cc is)
cut (x ∷ ops) (o ∷ these) more is =
    let (same, others) = heads (unsourced x) o (all_unsourced ops) (these ++ more) is in
    let c = cut ops these more others in
    record {
      front = x ∷ c.front;
      behind = c.behind;
      ops_are = ap (λ l. x ∷ l) c.ops_are;
      front_is = joined (unsourced x) o (all_unsourced c.front) these same c.front_is;
      behind_is = c.behind_is;
    }

-- nothing without its sources is nothing
none : (ops : List (Op ℕ)) → all_unsourced ops ≡ [] → ops ≡ []
none [] is = refl
none (o ∷ ops) is = absurd (cc is)

-- one operation
gets : (o : Op ℕ) (key : ℕ) (reply : Option (List ℕ)) (source : ℕ) → unsourced o ≡ op.Get key reply source → (from : ℕ) × (o ≡ op.Get key reply from)
gets (op.Get at found from) key reply source is = (from, cc is)
gets (op.Put at value) key reply source is = absurd (cc is)
gets (op.Del at) key reply source is = absurd (cc is)

puts : (o : Op ℕ) (key : ℕ) (value : List ℕ) → unsourced o ≡ op.Put key value → o ≡ op.Put key value
puts (op.Get at found from) key value is = absurd (cc is)
puts (op.Put at new) key value is = is
puts (op.Del at) key value is = absurd (cc is)

dels : (o : Op ℕ) (key : ℕ) → unsourced o ≡ op.Del key → o ≡ op.Del key
dels (op.Get at found from) key is = absurd (cc is)
dels (op.Put at new) key is = absurd (cc is)
dels (op.Del at) key is = is

one : (ops : List (Op ℕ)) (x : Op ℕ) → all_unsourced ops ≡ x ∷ [] → (o : Op ℕ) × (ops ≡ o ∷ []) × (unsourced o ≡ x)
one [] x is = absurd (cc is)
one (o ∷ ops) x is = let (same, others) = heads (unsourced o) x (all_unsourced ops) [] is in (o, ap (λ l. o ∷ l) (none ops others), same)

of_ask : (ask : Ask) (ops : List (Op ℕ)) → IsOpsOf ask (all_unsourced ops) → IsOpsOf ask ops
of_ask (Get key) ops (reply, source, is) =
    let (o, ops_are, same) = one ops (op.Get key reply source) is in
    let (from, o_is) = gets o key reply source same in
    (reply, from, ops_are ∙ ap (λ x. x ∷ []) o_is)
of_ask (Put key value) ops is =
    let (o, ops_are, same) = one ops (op.Put key value) is in
    ops_are ∙ ap (λ x. x ∷ []) (puts o key value same)
of_ask (Del key) ops is =
    let (o, ops_are, same) = one ops (op.Del key) is in
    ops_are ∙ ap (λ x. x ∷ []) (dels o key same)
of_ask (Add key amount) [] (reply, source, new, sum, is) = absurd (cc is)
of_ask (Add key amount) (a ∷ ops) (reply, source, new, sum, is) =
    let (first, others) = heads (unsourced a) (op.Get key reply source) (all_unsourced ops) (op.Put key new ∷ []) is in
    let (o, ops_are, same) = one ops (op.Put key new) others in
    let (from, a_is) = gets a key reply source first in
    (reply, from, new, sum, joined a (op.Get key reply from) ops (op.Put key new ∷ []) a_is (ops_are ∙ ap (λ x. x ∷ []) (puts o key new same)))

meets : (asks : List Ask) (ops : List (Op ℕ)) → Meets asks (all_unsourced ops) → Meets asks ops
meets [] ops is = none ops is
meets (ask ∷ asks) ops (these, more, is, of, rest) =
    let c = cut ops these more is in
    (c.front, c.behind, c.ops_are, of_ask ask c.front (subst (IsOpsOf ask) (sym c.front_is) of), meets asks c.behind (subst (Meets asks) (sym c.behind_is) rest))

adds_get : (asks : List Ask) (ops : List (Op ℕ)) (a : IsAddsGet asks (all_unsourced ops)) → (b : IsAddsGet asks ops) × (b.reply ≡ a.reply) × (b.amount ≡ a.amount)
adds_get asks ops a =
    let (o, ops_are, same) = one ops (op.Get a.key a.reply a.source) a.ops_are in
    let (from, o_is) = gets o a.key a.reply a.source same in (
      record { key = a.key; amount = a.amount; behind = a.behind; reply = a.reply; source = from; asks_are = a.asks_are; ops_are = ops_are ∙ ap (λ x. x ∷ []) o_is },
      refl,
      refl,
    )

meets_front : (asks : List Ask) (ops : List (Op ℕ)) → MeetsFront asks (all_unsourced ops) → MeetsFront asks ops
meets_front asks ops m =
    let c = cut ops m.these m.more m.ops_are in
    record {
      met = m.met;
      left = m.left;
      these = c.front;
      more = c.behind;
      asks_are = m.asks_are;
      ops_are = c.ops_are;
      meets = meets m.met c.front (subst (Meets m.met) (sym c.front_is) m.meets);
      begun = begun c.behind (subst (λ l. (l ≡ []) ⊎ IsAddsGet m.left l) (sym c.behind_is) m.begun);
    }
  where
    begun : (more : List (Op ℕ)) → (all_unsourced more ≡ []) ⊎ IsAddsGet m.left (all_unsourced more) → (more ≡ []) ⊎ IsAddsGet m.left more
    begun more (inl is) = inl (none more is)
    begun more (inr a) = inr (adds_get m.left more a).0

meets_no_sum : (asks : List Ask) (ops : List (Op ℕ)) → MeetsNoSum asks (all_unsourced ops) → MeetsNoSum asks ops
meets_no_sum asks ops m =
    let c = cut ops m.these m.more m.ops_are in
    with_get c.front c.behind c.ops_are (meets m.met c.front (subst (Meets m.met) (sym c.front_is) m.meets)) c.behind_is
  where
    with_get : (front behind : List (Op ℕ)) → ops ≡ front ++ behind → Meets m.met front → all_unsourced behind ≡ m.more → MeetsNoSum asks ops
    with_get front behind ops_are met is =
        let (o, behind_is, same) = one behind (op.Get m.begun.key m.begun.reply m.begun.source) (is ∙ m.begun.ops_are) in
        let (from, o_is) = gets o m.begun.key m.begun.reply m.begun.source same in
        record {
          met = m.met;
          left = m.left;
          these = front;
          more = behind;
          asks_are = m.asks_are;
          ops_are = ops_are;
          meets = met;
          begun = record { key = m.begun.key; amount = m.begun.amount; behind = m.begun.behind; reply = m.begun.reply; source = from; asks_are = m.begun.asks_are; ops_are = behind_is ∙ ap (λ x. x ∷ []) o_is };
          no_sum = m.no_sum;
        }

-- ---- one transaction, and those of a client

pub ends_as : (ask : ScriptTxn) (ops : List (Op ℕ)) (outcome : Outcome ℕ) (told : Told) → all_unsourced ops ≡ told.ops → IsToldEnd outcome told → IsMeant ask told → EndsAs ask ops outcome
ends_as ask ops outcome told same is m = by outcome is
  where
    front : MeetsFront ask.asks ops
    front = meets_front ask.asks ops (subst (MeetsFront ask.asks) (sym same) m.front)

    asked : (Meets ask.asks told.ops × (ask.ending ≡ Abort)) ⊎ MeetsNoSum ask.asks told.ops → (Meets ask.asks ops × (ask.ending ≡ Abort)) ⊎ MeetsNoSum ask.asks ops
    asked (inl (all, ending)) = inl (meets ask.asks ops (subst (Meets ask.asks) (sym same) all), ending)
    asked (inr no_sum) = inr (meets_no_sum ask.asks ops (subst (MeetsNoSum ask.asks) (sym same) no_sum))

    by : (o : Outcome ℕ) → IsToldEnd o told → EndsAs ask ops o
    by Committed is = let (all, ending) = m.committed is in (meets ask.asks ops (subst (Meets ask.asks) (sym same) all), ending)
    by (Aborted Asked) is = asked (m.asked is)
    by (Aborted (Conflict key reader)) is = front
    by (Aborted (Depends on)) is = front
    by (Aborted (ReadsFull queued left)) is = front
    by (Aborted (WritesFull keys)) is = front
    by (Aborted (ShareReads keys)) is = front
    by (Aborted (ShareWrites keys)) is = front
    by (Aborted EpochEnd) is = front
    by (Aborted (Stopped fault)) is = front
    by (Unsure epoch) is = absurd is

-- a client's transactions that the records tell of are the first of its script's
pub served_first : (number : ℕ) (asks : List ScriptTxn) (txns : List (TxnRecord ℕ)) (told : List Told) → TellFirst number txns told → MeantFirst asks told → ServedFirst asks txns
served_first number asks [] told tells means = tt
served_first number asks (t ∷ txns) [] tells means = absurd tells
served_first number [] (t ∷ txns) (one ∷ told) tells means = absurd means
served_first number (ask ∷ asks) (t ∷ txns) (one ∷ told) (is, tells) (m, means) = (ends_as ask t.ops t.outcome one is.ops is.ends m, served_first number asks txns told tells means)

-- or all of them
pub served_all : (number : ℕ) (asks : List ScriptTxn) (txns : List (TxnRecord ℕ)) (told : List Told) → TellAll number txns told → MeantAll asks told → ServedAll asks txns
served_all number [] [] [] tells means = tt
served_all number [] [] (one ∷ told) tells means = absurd tells
served_all number [] (t ∷ txns) [] tells means = absurd tells
served_all number [] (t ∷ txns) (one ∷ told) tells means = absurd means
served_all number (ask ∷ asks) [] [] tells means = absurd means
served_all number (ask ∷ asks) [] (one ∷ told) tells means = absurd tells
served_all number (ask ∷ asks) (t ∷ txns) [] tells means = absurd tells
served_all number (ask ∷ asks) (t ∷ txns) (one ∷ told) (is, tells) (m, means) = (ends_as ask t.ops t.outcome one is.ops is.ends m, served_all number asks txns told tells means)

pub told_is_asked : ToldIsAsked
told_is_asked = record { first = served_first; all = served_all }
