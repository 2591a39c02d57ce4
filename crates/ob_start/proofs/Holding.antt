-- What is read of a register, by what was got of it.
use Rattle.std.proofs.Common.{◌≡◌, ◌<◌, ◌^◌, ℕ, List, Option, Some, None, Result, Ok, Err, IfOk, IfErr, OnOk, ap, refl, ◌∙◌, sym, subst}
use mathlib.Core.Path.{fun_ext}
use Rattle.std.specs.Prelude.{IfSome}
use Rattle.ob_base.specs.declared.fault.Fault.{Fault}
use Rattle.ob_base.specs.declared.fault.Fault.TheVariants.{Memory, Usage, BadScript, BadParams, NotStore, Damaged, StoreFault, StashFull, Worn, SourceFault, SinkFault}
use Rattle.ob_base.specs.declared.fault.Check.{Check}
use Rattle.ob_store.specs.declared.event.Event.{Event}
use Rattle.ob_store.specs.declared.watch.Note.{Note}
use Rattle.ob_store.specs.Disk.{Disk, Image}
use Rattle.ob_store.specs.Calls.{Serves, IsStoreFault}
use Rattle.ob_store.specs.Lines.{Trace}
use Rattle.ob_store.specs.Told.{Does}
use Rattle.ob_store.proofs.Doing.{does_all, does_err}
use Rattle.ob_store.proofs.Serving.{serves_ok, serves_err}
use Rattle.ob_seal.specs.declared.keys.Keys.{Keys}
use Rattle.ob_twin.specs.declared.twin.Twin.{Twin}
use Rattle.ob_twin.specs.declared.twin.Twin.TheVariants.{GENERATION, EPOCH}
use Rattle.ob_twin.specs.declared.gates.Gates.{Gates}
use Rattle.ob_twin.specs.declared.gates.Open.{Open}
use Rattle.ob_twin.specs.Keyed.{tagging}
use Rattle.ob_twin.specs.Opening.{known_of, with_known, GatesAre, HasOpen}
use Rattle.ob_twin.specs.Reading.{IsGetFault, IsGot}
use Rattle.ob_twin.specs.Got.{DoesReads, IsGates}
use Rattle.ob_start.specs.declared.registers.Register.{Register}
use Rattle.ob_start.specs.declared.registers.Register.TheVariants.{Closed, Number, Broken}
use Rattle.ob_start.specs.declared.registers.Numbers.{Numbers}
use Rattle.ob_start.specs.Registers.{register_held, HaveOpen, IsRegister, IsNumber, IsBelow, KnowsGates}

-- ---- the gates of both registers

generation_again : (b c : Gates) → c ≡ with_known EPOCH b (known_of EPOCH c) → c.generation ≡ b.generation
generation_again b c other = ap (λ (g : Gates). g.generation) other

pub generation_gates : (a b c : Gates) (image : Image) → KnowsGates GENERATION a b image → c ≡ with_known EPOCH b (known_of EPOCH c) → GatesAre c.generation 1 image
generation_gates a b c image knows other =
    subst (λ (o : Open). GatesAre o 1 image) (sym (generation_again b c other ∙ ap (λ (g : Gates). g.generation) knows.kept)) knows.are

pub epoch_gates : (b c : Gates) (mid old : Image) → KnowsGates EPOCH b c mid → ((k : ℕ) → mid k ≡ old k) → GatesAre c.epoch 5 old
epoch_gates b c mid old knows same =
    subst (λ (image : Image). GatesAre c.epoch 5 image) (fun_ext (λ k. same k)) (subst (λ (o : Open). GatesAre o 5 mid) (sym (ap (λ (g : Gates). g.epoch) knows.kept)) knows.are)

pub both_open : (generation epoch : Register) (b c : Gates) (r : Result Numbers Fault) → IfOk r (λ numbers. IsNumber generation × IsNumber epoch) → (IsNumber generation → HasOpen b.generation)
    → (IsNumber epoch → HasOpen c.epoch) → c ≡ with_known EPOCH b (known_of EPOCH c) → OnOk r (HaveOpen c)
both_open generation epoch b c (Ok numbers) are one two other = (subst HasOpen (sym (generation_again b c other)) (one are.0), two are.1)
both_open generation epoch b c (Err refused) are one two other = tt

-- ---- what is held back

-- a get tells a number, or none, or damage, or that the store failed
pub held_so : (P : Result (Option ℕ) Fault → Result Register Fault → Type 0) → P (Ok None) (Ok Closed) → ((n : ℕ) → P (Ok (Some n)) (Ok (Number n)))
    → ((cell : ℕ) (check : Check) (kept computed : List ℕ) → P (Err (Damaged cell check kept computed)) (Ok (Broken (record { cell = cell; check = check; kept = kept; computed = computed }))))
    → P (Err (StoreFault None)) (Err (StoreFault None)) → (got : Result (Option ℕ) Fault) → IfErr got IsGetFault → P got (register_held got)
held_so P closed number broken failed (Ok None) is = closed
held_so P closed number broken failed (Ok (Some n)) is = number n
held_so P closed number broken failed (Err (Damaged cell check kept computed)) is = broken cell check kept computed
held_so P closed number broken failed (Err (StoreFault unsure)) is = subst (λ (e : Option ℕ). P (Err (StoreFault e)) (Err (StoreFault e))) (sym is) failed
held_so P closed number broken failed (Err Memory) is = absurd is
held_so P closed number broken failed (Err Usage) is = absurd is
held_so P closed number broken failed (Err (BadScript line)) is = absurd is
held_so P closed number broken failed (Err (BadParams field)) is = absurd is
held_so P closed number broken failed (Err NotStore) is = absurd is
held_so P closed number broken failed (Err (StashFull rows)) is = absurd is
held_so P closed number broken failed (Err (Worn reached)) is = absurd is
held_so P closed number broken failed (Err SourceFault) is = absurd is
held_so P closed number broken failed (Err SinkFault) is = absurd is

pub held_serves : (a b : Disk) (got : Result (Option ℕ) Fault) → IfErr got IsGetFault → Serves IsStoreFault a b got → (a.tells → b.tells) → Serves IsStoreFault a b (register_held got)
held_serves a b got is serves keeps =
    held_so (λ g h. Serves IsStoreFault a b g → Serves IsStoreFault a b h) (λ s. serves_ok IsStoreFault a b Closed s.goes s.out keeps) (λ n s. serves_ok IsStoreFault a b (Number n) s.goes s.out keeps)
    (λ cell check kept computed s. serves_ok IsStoreFault a b _ s.goes s.out keeps) (λ s. serves_err IsStoreFault IsStoreFault a b (StoreFault None) (StoreFault None) (λ f. f) s) got is serves

pub held_refused : (got : Result (Option ℕ) Fault) → IfErr got IsGetFault → IfErr (register_held got) (λ refused. refused ≡ StoreFault None)
held_refused got is = held_so (λ g h. IfErr h (λ refused. refused ≡ StoreFault None)) tt (λ n. tt) (λ cell check kept computed. tt) refl got is

pub held_value : (keys : Keys) (first : ℕ) (image : Image) (got : Result (Option ℕ) Fault) → IfErr got IsGetFault → IsGot (tagging keys) first image got → IfOk (register_held got) (IsRegister keys first image)
held_value keys first image got is value =
    held_so (λ g h. IsGot (tagging keys) first image g → IfOk h (IsRegister keys first image)) (λ v. v) (λ n v. v) (λ cell check kept computed v. v) (λ v. tt) got is value

pub held_below : (got : Result (Option ℕ) Fault) → IfErr got IsGetFault → IfOk got (λ number. IfSome number (λ n. n < 2 ^ 62)) → IfOk (register_held got) IsBelow
held_below got is below = held_so (λ g h. IfOk g (λ number. IfSome number (λ n. n < 2 ^ 62)) → IfOk h IsBelow) (λ b. tt) (λ n b. b) (λ cell check kept computed b. tt) (λ b. tt) got is below

pub held_gates : (twin : Twin) (old new : Gates) (image : Image) (got : Result (Option ℕ) Fault) → IfErr got IsGetFault → IsGates twin old new image got → OnOk (register_held got) (KnowsGates twin old new image)
held_gates twin old new image got is gates =
    held_so (λ g h. IsGates twin old new image g → OnOk h (KnowsGates twin old new image)) (λ k. record { known = k.0; kept = k.1; are = k.2 }) (λ n k. record { known = k.0; kept = k.1; are = k.2 })
    (λ cell check kept computed k. record { known = k.0; kept = k.1; are = k.2 }) (λ k. tt) got is gates

pub held_some : (twin : Twin) (gates : Gates) (got : Result (Option ℕ) Fault) → IfErr got IsGetFault → IfOk got (λ number. IfSome number (λ n. HasOpen (known_of twin gates)))
    → IfOk (register_held got) (λ register. IsNumber register → HasOpen (known_of twin gates))
held_some twin gates got is some =
    held_so (λ g h. IfOk g (λ number. IfSome number (λ n. HasOpen (known_of twin gates))) → IfOk h (λ register. IsNumber register → HasOpen (known_of twin gates))) (λ s wrong. absurd wrong) (λ n s number. s)
    (λ cell check kept computed s wrong. absurd wrong) (λ s. tt) got is some

pub held_does : (notes : List Note) (a b : Option (List Event)) (k l : Trace) (got : Result (Option ℕ) Fault) → IfErr got IsGetFault → DoesReads notes a b k l got → Does notes a b k l (register_held got)
held_does notes a b k l got is does =
    held_so (λ g h. DoesReads notes a b k l g → Does notes a b k l h) (λ d. does_all _ _ _ _ notes Closed d) (λ n d. does_all _ _ _ _ notes (Number n) d) (λ cell check kept computed d. does_all _ _ _ _ notes _ d)
    (λ d. does_err _ _ _ _ notes (StoreFault None) d) got is does
