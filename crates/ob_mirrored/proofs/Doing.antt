-- What is left of the halves of a mirror, and what want of memory comes to.
use Rattle.std.proofs.Common.{◌≡◌, ◌≢◌, ◌⊎◌, ℕ, ◌+◌, ◌-◌, ◌∷◌, List, Bool, true, false, Option, Some, None, Result, Ok, Err, IfOk, MatchResult, inl, inr, refl, sym, ap, ◌∙◌, subst, arith}
use Rattle.std.specs.Prelude.{is_some}
use Rattle.std.specs.Borrow.{Bor, GName, MutBor}
use Rattle.ob_base.specs.declared.fault.Fault.{Fault}
use Rattle.ob_base.specs.declared.fault.Fault.TheVariants.{Memory, Usage, BadScript, BadParams, NotStore, Damaged, StoreFault, StashFull, Worn, SourceFault, SinkFault}
use Rattle.ob_base.specs.declared.fault.Field.{Field}
use Rattle.ob_base.specs.declared.params.Params.{Params}
use Rattle.ob_base.specs.declared.fault.Memory as wanting
use Rattle.ob_mirrored.specs.declared.asked.MirrorRun.{MirrorRun}
use Rattle.ob_desk.specs.Beats.{BeatKind}
use Rattle.ob_io.specs.Streams.{Flow}
use Rattle.ob_store.specs.Calls.{GoesOn}
use Rattle.ob_shares.specs.declared.shares.Shares.{Shares}
use Rattle.ob_store.specs.Disk.{Disk, Image}
use Rattle.ob_store.proofs.Serving.{goes_same}
use Rattle.ob_mirror.specs.Mirrored.{Alike, Together}
use Rattle.ob_words.specs.Reading.{Asked, AskedShares, asked_by, format_asked, run_asked, audit_asked, drill_asked}
use Rattle.ob_words.specs.declared.work.Command.TheVariants.{Format, Run}
use Rattle.ob_words.specs.declared.work.Work.{Work}
use Rattle.ob_words.specs.declared.work.Work.TheVariants.{Audit, Drill, OnStore}
use Rattle.ob_words.specs.Work.{AreBadLanes, AreLanes, AreShares, AskFor, IsCommandOf, IsOutOfRange, IsRefusedFor}
use Rattle.ob_top.specs.Begun.{AreFewLanes}
use Rattle.ob_top.proofs.Headlines.{told_promised}
use Rattle.ob_top.specs.Outside.{Given, IsOnlyTold, Left, Outside}
use Rattle.ob_mirrored.specs.Asked.{AsksForMirror, IsAsked, IsMirrorAsked, IsRunOf, IsNoMirrorAsked, mirror_of}
use Rattle.ob_mirrored.specs.Mirrored.{SecondIn, SecondStays, left_behind}
use Rattle.ob_mirrored.specs.Tops.{TopDoes}

pub both_in : (a b : ℕ) → a ≡ 0 → b ≡ 0 → a + (b - a) ≡ 0
both_in a b one two = omega arith

pub each_in : (a b : ℕ) → a + (b - a) ≡ 0 → (a ≡ 0) × (b ≡ 0)
each_in a b both = (omega arith, omega arith)

pub name_first : (a b : GName) (xs ys : List GName) → ◌≡◌ {A = List GName} (a ∷ xs) (b ∷ ys) → a ≡ b
name_first a b xs ys is = cc is

pub name_second : (a b c d : GName) (xs ys : List GName) → ◌≡◌ {A = List GName} (a ∷ c ∷ xs) (b ∷ d ∷ ys) → c ≡ d
name_second a b c d xs ys is = cc is

-- a mirror that was just made tells its cells where both halves do, and read alike
pub mirror_tells : {A B : Type 0} (one : A → Disk) (two : B → Disk) (apart : Bool) (first_then first_now a : A) (second_then second_now b : B) → apart ≡ false → first_then ≡ a → second_then ≡ b → first_now ≡ a → second_now ≡ b → (one a).tells → (two b).tells → Alike (one a) (two b)
    → Together apart (one first_then) (two second_then) × (one first_now).tells × (two second_now).tells
mirror_tells one two apart first_then first_now a second_then second_now b whole begun begun_too now now_too s t alike = (
  (whole, subst (λ x. Alike (one x) (two second_then)) (sym begun) (subst (λ y. Alike (one a) (two y)) (sym begun_too) alike)),
  subst (λ x. (one x).tells) (sym now) s,
  subst (λ y. (two y).tells) (sym now_too) t,
)

-- ---- want of memory for the words

module _ {S W : Type 0} (disk : S → Disk) (flow : W → Flow) (beat : BeatKind) (words : List (List ℕ)) (text : Option (Bor (List ℕ))) (was : Option W) (before after : Outside) (status : ℕ) (tape : Given) where
  pub memory_alone : (exit : Left S) → IsOnlyTold Memory before after status → TopDoes disk flow beat words text None exit was was before after status tape
  memory_alone exit told = record {
    goes = tt;
    usage = λ none. inr ((tt, refl), told);
    audit = λ asked. inl ((tt, refl), told);
    drill = λ word asked. inl ((tt, refl), told);
    format = λ s k numbers trace asked. inl ((tt, refl), told);
    run = λ s k lanes turns trace mirror limits asked. inl ((tt, refl), told);
    headline = λ s k lanes turns trace mirror limits n shares keys asked are given has. tt;
    complete = tt;
    drill_complete = λ word n asked count holds. inr told.status_is;
    audit_complete = λ asked input output. inr (inr told.status_is);
  }

  pub memory_with : (lent left : MutBor S) → left.now ≡ lent.now → (disk lent.now).out ≡ 0 → ((x : S) (image : Image) → (disk x).left_since (disk x).moment image → (disk x).may_leave image) → ((x : S) → (disk x).tells → (disk x).leaves → (disk x).may_leave (disk x).cells)
      → IsOnlyTold Memory before after status → TopDoes disk flow beat words text (Some lent) (left_behind left) was was before after status tape
  memory_with lent left same none only_now includes_reads told = record {
    goes = subst (λ x. GoesOn (disk lent.now) (disk x) × ((disk x).out ≡ 0)) (sym same) (goes_same (disk lent.now), none);
    usage = λ none. inr ((same, refl), told);
    audit = λ asked. inl ((same, refl), told);
    drill = λ word asked. inl ((same, refl), told);
    format = λ s k numbers trace asked. inl ((same, refl), told);
    run = λ s k lanes turns trace mirror limits asked. inl ((same, refl), told);
    headline = λ s k lanes turns trace mirror limits n shares keys asked are given has p at past stood.
        told_promised disk flow beat tape text lent.now left.now was was before after status only_now includes_reads (subst (λ x. GoesOn (disk lent.now) (disk x)) (sym same) (goes_same (disk lent.now))) turns n shares keys p at past stood lanes trace limits are given has (inl ((same, refl), told));
    complete = ((λ can. inr told.status_is), (λ script can. inr (inl told.status_is)));
    drill_complete = λ word n asked count holds. inr told.status_is;
    audit_complete = λ asked input output. inr (inr told.status_is);
  }

-- ---- no lane is out

pub second_same : {B : Type 0} (two : B → Disk) (m : Option B) → SecondIn two m → SecondStays two m m
second_same two (Some b) none = none
second_same two None none = tt

-- ---- the words

-- what the words ask for is one thing
pub same_run : (words : List (List ℕ)) (one two : Option (List ℕ)) (a : AsksForMirror words one) (b : AsksForMirror words two) → (one ≡ two) × (a.turns ≡ b.turns) × (a.trace ≡ b.trace) × (a.limits ≡ b.limits)
same_run words one two a b =
    let same : Some (run_asked a.store_path a.keys_path one a.turns a.trace (Some a.file) a.limits) ≡ Some (run_asked b.store_path b.keys_path two b.turns b.trace (Some b.file) b.limits) = sym a.asked ∙ b.asked in (cc, cc, cc, cc)

no_file : {A : Type 0} (x : A) → is_some (Some x) ≡ false → ⊥
no_file x is = cc is

-- a run with a mirror
command_asks : (words : List (List ℕ)) (asked : Asked) (k : ℕ) (turns traced : Bool) (shares : Shares) → asked_by words ≡ Some asked → IsCommandOf asked (Run k turns traced true shares) → IsMirrorAsked words (record { lanes = k; turns = turns; traced = traced; shares = shares })
command_asks words (run_asked store keys lanes by_hand trace (Some file) limits) k turns traced shares is (are, by, told, copied, given) = record {
  lanes = lanes;
  asks = record { store_path = store; keys_path = keys; turns = by_hand; trace = trace; file = file; limits = limits; asked = is };
  own = record { in_range = are; turns = by; traced = told; shares = given };
}
command_asks words (run_asked store keys lanes by_hand trace None limits) k turns traced shares is (are, by, told, copied, given) = cc copied
command_asks words (format_asked store keys numbers trace) k turns traced shares is of = absurd of
command_asks words audit_asked k turns traced shares is of = absurd of
command_asks words (drill_asked count) k turns traced shares is of = absurd of

-- anything else asks for none
run_alone : (words : List (List ℕ)) (asked : Asked) (k : ℕ) (turns traced : Bool) (shares : Shares) → asked_by words ≡ Some asked → IsCommandOf asked (Run k turns traced false shares) → IsNoMirrorAsked words
run_alone words (run_asked store keys lanes by_hand trace mirror limits) k turns traced shares is (are, by, told, copied, given) own asks =
    let same : ◌≡◌ {A = Option Asked} (Some (run_asked asks.store_path asks.keys_path own asks.turns asks.trace (Some asks.file) asks.limits)) (Some (run_asked store keys lanes by_hand trace mirror limits)) = sym asks.asked ∙ is in
    let mirrors : Some asks.file ≡ mirror = cc same in
    absurd (no_file asks.file (ap (λ (o : Option (List ℕ)). is_some o) mirrors ∙ sym copied))
run_alone words (format_asked store keys numbers trace) k turns traced shares is of own asks = absurd of
run_alone words audit_asked k turns traced shares is of own asks = absurd of
run_alone words (drill_asked count) k turns traced shares is of own asks = absurd of

other_asked : (words : List (List ℕ)) (asked : Asked) → asked_by words ≡ Some asked → ((store keys : List ℕ) (lanes : Option (List ℕ)) (turns : Bool) (trace mirror : Option (List ℕ)) (limits : AskedShares) → asked ≡ run_asked store keys lanes turns trace mirror limits → ⊥) → IsNoMirrorAsked words
other_asked words asked is other own asks =
    let same : ◌≡◌ {A = Option Asked} (Some asked) (Some (run_asked asks.store_path asks.keys_path own asks.turns asks.trace (Some asks.file) asks.limits)) = sym is ∙ asks.asked in
    absurd (other asks.store_path asks.keys_path own asks.turns asks.trace (Some asks.file) asks.limits (cc same))

format_alone : (words : List (List ℕ)) (asked : Asked) (p : Params) (traced : Bool) → asked_by words ≡ Some asked → IsCommandOf asked (Format p traced) → IsNoMirrorAsked words
format_alone words (format_asked store keys numbers trace) p traced is of = other_asked words (format_asked store keys numbers trace) is (λ s k lanes turns t m limits same. cc same)
format_alone words (run_asked store keys lanes by_hand trace mirror limits) p traced is of = absurd of
format_alone words audit_asked p traced is of = absurd of
format_alone words (drill_asked count) p traced is of = absurd of

pub work_asks : (words : List (List ℕ)) (work : Work) → AskFor words work → IsAsked words (mirror_of work)
work_asks words (OnStore (Run k turns traced true shares)) (asked, is, of) = command_asks words asked k turns traced shares is of
work_asks words (OnStore (Run k turns traced false shares)) (asked, is, of) = run_alone words asked k turns traced shares is of
work_asks words (OnStore (Format p traced)) (asked, is, of) = format_alone words asked p traced is of
work_asks words Audit (asked, is, of) = other_asked words asked is (λ s k lanes turns t m limits same. cc (of, same))
work_asks words (Drill n) (asked, is, (word, of, count)) = other_asked words asked is (λ s k lanes turns t m limits same. cc (of, same))

-- words with a number out of its range ask for none, but for a number of lanes
bad_lanes : (words : List (List ℕ)) (field : Field) (asked : Asked) → asked_by words ≡ Some asked → IsOutOfRange asked field → IsNoMirrorAsked words
bad_lanes words field (run_asked store keys lanes by_hand trace mirror limits) is out =
    λ own asks.
    let same : ◌≡◌ {A = Option Asked} (Some (run_asked asks.store_path asks.keys_path own asks.turns asks.trace (Some asks.file) asks.limits)) (Some (run_asked store keys lanes by_hand trace mirror limits)) = sym asks.asked ∙ is in
    let lanes_are : lanes ≡ own = cc same in
    subst (λ (l : Option (List ℕ)). AreBadLanes l) lanes_are out.1
bad_lanes words field (format_asked store keys numbers trace) is out = other_asked words (format_asked store keys numbers trace) is (λ s k lanes turns t m limits same. cc same)
bad_lanes words field audit_asked is out = absurd out
bad_lanes words field (drill_asked count) is out = other_asked words (drill_asked count) is (λ s k lanes turns t m limits same. cc same)

-- nor do words that were refused, but for a number of lanes out of its range
pub refusal_asks : (words : List (List ℕ)) (fault : Fault) → fault ≢ Memory → IsRefusedFor words fault → IsNoMirrorAsked words
refusal_asks words Usage other none =
    λ own asks. let none_asked : ◌≡◌ {A = Option Asked} None (Some (run_asked asks.store_path asks.keys_path own asks.turns asks.trace (Some asks.file) asks.limits)) = sym none ∙ asks.asked in absurd (cc none_asked)
refusal_asks words (BadParams field) other (asked, is, out) = bad_lanes words field asked is out
refusal_asks words Memory other refusal = absurd (other refl)
refusal_asks words (BadScript line) other refusal = absurd refusal
refusal_asks words NotStore other refusal = absurd refusal
refusal_asks words (Damaged cell check kept computed) other refusal = absurd refusal
refusal_asks words (StoreFault unsure) other refusal = absurd refusal
refusal_asks words (StashFull rows) other refusal = absurd refusal
refusal_asks words (Worn number) other refusal = absurd refusal
refusal_asks words SourceFault other refusal = absurd refusal
refusal_asks words SinkFault other refusal = absurd refusal

pub refused_told : (words : List (List ℕ)) (fault : Fault) → IsRefusedFor words fault → (r : Result (Option MirrorRun) wanting.Memory) → MatchResult r (λ none. (none ≡ None) × (fault ≢ Memory)) (λ err. fault ≡ Memory) → IfOk r (λ run. IsAsked words run)
refused_told words fault refusal (Ok run) (is, other) = subst (λ (o : Option MirrorRun). IsAsked words o) (sym is) (refusal_asks words fault other refusal)
refused_told words fault refusal (Err wanting) is = tt

-- so many lanes are few
pub few_lanes : (lanes : Option (List ℕ)) (k : ℕ) → AreLanes lanes k → AreFewLanes k
few_lanes None k are = (omega arith, omega arith)
few_lanes (Some word) k are = (are.1, are.2)

no_bad_lanes : (lanes : Option (List ℕ)) (k : ℕ) → AreLanes lanes k → AreBadLanes lanes → ⊥
no_bad_lanes None k are bad = bad
no_bad_lanes (Some word) k are bad = bad k are.1 are.2 are.0

-- no number of lanes is in range, and that is what was told
pub lanes_refused : {P P' Q Q' R' : Type 0} {R : ℕ → Shares → Type 0} (lanes : Option (List ℕ)) (limits : AskedShares) → AreBadLanes lanes
    → P ⊎ ((AreBadLanes lanes × Q) ⊎ ((k : ℕ) × AreLanes lanes k × (shares : Shares) × AreShares limits shares × R k shares)) → (P → P') → (Q → Q') → P' ⊎ ((AreBadLanes lanes × Q') ⊎ R')
lanes_refused lanes limits bad (inl p) one two = inl (one p)
lanes_refused lanes limits bad (inr (inl (worse, q))) one two = inr (inl (bad, two q))
lanes_refused lanes limits bad (inr (inr (k, are, shares, given, r))) one two = absurd (no_bad_lanes lanes k are bad)

-- so it is the run that is asked for
pub is_run : (words : List (List ℕ)) (lanes : Option (List ℕ)) (asks : AsksForMirror words lanes) (run : MirrorRun) → IsMirrorAsked words run → IsRunOf asks run
is_run words lanes asks run is =
    let (same, turns, trace, limits) = same_run words is.lanes lanes is.asks asks in
    record {
      in_range = subst (λ (l : Option (List ℕ)). AreLanes l run.lanes) same is.own.in_range;
      turns = is.own.turns ∙ turns;
      traced = is.own.traced ∙ ap (λ (o : Option (List ℕ)). is_some o) trace;
      shares = subst (λ (l : AskedShares). AreShares l run.shares) limits is.own.shares;
    }

pub has_trace : {W : Type 0} (was : Option W) (w : W) → was ≡ Some w → was ≡ None → ⊥
has_trace was w some none = let both : Some w ≡ None = sym some ∙ none in cc both
