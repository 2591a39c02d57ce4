-- A head that is cleared, and what lies behind it.
use Rattle.std.proofs.Common.{◌≡◌, ◌≢◌, ◌⊎◌, inl, inr, ℕ, zero, suc, ◌+◌, ◌%◌, ◌<◌, ◌≤◌, ◌^◌, ◌==◌, List, Bool, true, false, not, ◌||◌, if◌then◌else◌, replicate, take, length, get_or, Result, Ok, Err, refl, sym, ◌∙◌, ap, subst, arith}
use Rattle.std.specs.Prelude.{IsErr}
use Rattle.ob_base.specs.declared.fault.Failed.{Failed}
use Rattle.ob_store.specs.Disk.{Disk, Image}
use Rattle.ob_store.specs.Images.{IsSynced, SameBut, IsImageOf, Tears, Elapses, Passes, LeavesOnly}
use Rattle.ob_store.specs.Calls.{GoesOn, Serves, IsFailed}
use Rattle.ob_store.proofs.Serving.{goes_then}
use Rattle.ob_store.proofs.Moments.{torn_once, passed_then, leaves_of, then_on, weakened, passes_so}
use Rattle.ob_twin.specs.declared.gates.Gates.{Gates}
use Rattle.ob_twin.specs.declared.gates.Open.{Open}
use Rattle.ob_twin.specs.declared.twin.Twin.{Twin}
use Rattle.ob_twin.specs.declared.twin.Twin.TheVariants.{GENERATION, EPOCH}
use Rattle.ob_twin.specs.Bodies.{Tagging, open_gate, closed_gate}
use Rattle.ob_twin.specs.Register.{place_of, IsOpen, IsUnder, StandsAt, IsPut, SameOutside}
use Rattle.ob_twin.specs.Opening.{gates_set, known_of, is_closed_first, with_mark}
use Rattle.ob_twin.specs.Reading.{NoneOpen}
use Rattle.ob_twin.proofs.Moves.{closed-isnt-open}
use Rattle.ob_twin.proofs.Judging.{at_place}
use Rattle.ob_twin.proofs.Sets.{put_stands}
use Rattle.ob_start.specs.Heads.{head_mark}
use Rattle.ob_start.specs.Laying.{SameHead, HasNoHead, IsTornHead, AreShut, SameButThese, LieBehind}
use Rattle.ob_start.specs.Orders.{register_gates}

pub head_then : (old mid new : Disk) → Passes SameHead old mid → Passes SameHead mid new → Passes SameHead old new
head_then old mid new one two = passed_then SameHead old mid new (λ c d e first second. first ∙ second) one two

-- a write behind the head
pub torn_high : (cell : ℕ) (old new : Disk) → 0 < cell → GoesOn old new → Elapses old new → Tears cell old new → (old.tells → SameBut cell new.cells old.cells) → Passes SameHead old new
torn_high cell old new high goes time tears rest = passes_so (SameBut cell) SameHead old new (λ c d same. same 0 (omega arith)) (torn_once cell old new goes time tears rest)

pub outside_head : (first : ℕ) (old new : Disk) → 0 < first → Passes (SameOutside first) old new → Passes SameHead old new
outside_head first old new high passes = passes_so (SameOutside first) SameHead old new (λ c d same. same 0 (inl (omega arith))) passes

no_head : (bytes : List ℕ) → bytes ≡ replicate 128 0 → (version : ℕ) → take 12 bytes ≢ head_mark version
unfolding head_mark
no_head bytes is version same =
    let wrong : ◌≡◌ {A = List ℕ} (take 12 (replicate 128 0)) (head_mark version) = ap (λ (l : List ℕ). take 12 l) (sym is) ∙ same in
    cc

-- the head as it is cleared
pub first_torn : (old new : Disk) → ((c : Image) → old.left_since old.moment c → old.may_leave c) → Passes (SameBut 0) old new → LeavesOnly old new (IsTornHead old)
first_torn old new only passes =
    leaves_of (SameBut 0) (IsImageOf old) (IsTornHead old) old new passes only (λ c left. inl left) (λ tells. inr (tells, refl)) (λ c d was step. (d, was, step)) (λ c was. (c, was, λ k off. refl))

-- and until it is written
pub no_head_left : (a b : Disk) → ((c : Image) → a.left_since a.moment c → a.may_leave c) → a.cells 0 ≡ replicate 128 0 → IsSynced a → Passes SameHead a b → LeavesOnly a b HasNoHead
no_head_left a b only blank settled passes =
    leaves_of SameHead HasNoHead HasNoHead a b passes only (λ c left. no_head (c 0) (settled c left 0 ∙ blank)) (λ tells. no_head (a.cells 0) blank) (λ c d was step version. subst (λ (l : List ℕ). take 12 l ≢ head_mark version) (sym step) (was version)) (λ c was. was)

-- the head is cleared, and then is none
pub cleared : (old a b : Disk) → LeavesOnly old a (IsTornHead old) → LeavesOnly a b HasNoHead → LeavesOnly old b (λ c. IsTornHead old c ⊎ HasNoHead c)
cleared old a b first second =
    then_on old a b (λ c. IsTornHead old c ⊎ HasNoHead c)
    (weakened old a (IsTornHead old) (λ c. IsTornHead old c ⊎ HasNoHead c) (λ c torn. inl torn) first)
    (weakened a b HasNoHead (λ c. IsTornHead old c ⊎ HasNoHead c) (λ c none. inr none) second)

-- a refusal behind a call that went well
pub failed_then : {T U : Type 0} (a b c : Disk) (e : Failed) (r : Result T Failed) → GoesOn a b → b.out ≤ a.out → IsErr r → Serves {T = U} IsFailed b c (Err e) → Serves {T = T} IsFailed a c r
failed_then a b c e (Ok v) goes out err serves = absurd (let wrong : false ≡ true = err in cc)
failed_then a b c e (Err f) goes out err serves = record { goes = goes_then a b c goes serves.goes; out = (let x = serves.out in omega arith); tells = tt; cause = λ blamed. (let le = goes.faults in let rose = serves.cause tt in omega arith) }

-- a gate as it is written closed isn't open
shut_gate : (bytes : List ℕ) → bytes ≡ closed_gate → bytes ≢ open_gate
shut_gate bytes is opened = closed-isnt-open (sym is ∙ opened)

-- with the registers' gates closed the generation's has no open one
pub generation_shut : (image : Image) → AreShut register_gates image → NoneOpen 1 image
generation_shut image are = at_place (λ place. IsOpen 1 image place → ⊥) (λ opened. shut_gate (image 2) (are 0 (omega arith)) opened) (λ opened. shut_gate (image 4) (are 1 (omega arith)) opened)

-- what is shut stays so where those cells do
pub shut_again : (gates : List ℕ) (a b : Image) → ((i : ℕ) → i < length gates → b (get_or gates i 0) ≡ a (get_or gates i 0)) → AreShut gates a → AreShut gates b
shut_again gates a b same are i lt = same i lt ∙ are i lt

-- the registers' gates lie behind the head, and before any further one
pub register_behind : LieBehind 0 register_gates
register_behind zero lt = omega arith
register_behind (suc zero) lt = omega arith
register_behind (suc (suc zero)) lt = omega arith
register_behind (suc (suc (suc zero))) lt = omega arith
register_behind (suc (suc (suc (suc i)))) lt = absurd (omega arith)

register_low : (i : ℕ) → i < 4 → get_or register_gates i 0 ≤ 8
register_low zero lt = omega arith
register_low (suc zero) lt = omega arith
register_low (suc (suc zero)) lt = omega arith
register_low (suc (suc (suc zero))) lt = omega arith
register_low (suc (suc (suc (suc i)))) lt = absurd (omega arith)

pub further : (low : ℕ) (more : List ℕ) → LieBehind 8 more → low ≤ 8 → LieBehind low more
further low more behind le i lt = omega (arith, behind i lt)

-- further gates are written: those of the registers stay, and so does the head
pub registers_apart : (more : List ℕ) (a b : Image) → LieBehind 8 more → SameButThese more b a → AreShut register_gates a → AreShut register_gates b
registers_apart more a b behind same are =
    shut_again register_gates a b (λ i lt. same (get_or register_gates i 0) (λ j below. (let high = behind j below in let low = register_low i lt in omega arith))) are

pub head_apart : (gates : List ℕ) (a b : Image) → LieBehind 0 gates → SameButThese gates b a → SameHead b a
head_apart gates a b behind same = same 0 (λ j below. (let high = behind j below in omega arith))

-- the generation is set: the epoch's gates and all further ones stay
pub epoch_apart : (a b : Image) → SameOutside 1 b a → AreShut register_gates a → NoneOpen 5 b
epoch_apart a b same are =
    at_place (λ place. IsOpen 5 b place → ⊥)
    (λ opened. shut_gate (a 6) (are 2 (omega arith)) (sym (same 6 (inr (omega arith))) ∙ opened))
    (λ opened. shut_gate (a 8) (are 3 (omega arith)) (sym (same 8 (inr (omega arith))) ∙ opened))

pub more_apart : (more : List ℕ) (a b : Image) → LieBehind 8 more → SameOutside 1 b a → AreShut more a → AreShut more b
more_apart more a b behind same are = shut_again more a b (λ i lt. same (get_or more i 0) (inr (let high = behind i lt in omega arith))) are

-- no number stands under a closed gate
pub none_under : (tag : Tagging) (first n : ℕ) (image : Image) → NoneOpen first image → IsUnder tag first image (place_of (n + 1)) n
none_under tag first n image none opened = absurd (none ((n + 1) % 2) (omega arith) opened)

pub first_put : (tag : Tagging) (first n : ℕ) (from image : Image) → n < 2 ^ 62 → NoneOpen first from → IsPut tag first from n image → StandsAt tag first image n
first_put tag first n from image small none put = (put_stands tag first n from image small (none_under tag first n from none) put).stands

-- where nothing is known to be open, a gate is closed first
none_marked : (b : Bool) → (if b then false else false) || not (false || false) ≡ true
none_marked true = refl
none_marked false = refl

pub closes_first : (twin : Twin) (gates : Gates) (place : ℕ) → gates.generation ≡ record { zero = false; one = false } → gates.epoch ≡ record { zero = false; one = false } → is_closed_first (known_of twin gates) place ≡ true
closes_first GENERATION gates place g e = ap (λ (k : Open). is_closed_first k place) g ∙ none_marked (place == 0)
closes_first EPOCH gates place g e = ap (λ (k : Open). is_closed_first k place) e ∙ none_marked (place == 0)

-- a register's gates behind its first number
pub alone_known : (twin : Twin) (fresh new : Gates) (n : ℕ) → fresh.generation ≡ record { zero = false; one = false } → fresh.epoch ≡ record { zero = false; one = false } → new ≡ gates_set twin n fresh (Ok tt)
    → known_of twin new ≡ with_mark (record { zero = false; one = false }) (place_of n)
alone_known GENERATION fresh new n g e is = ap (λ (gates : Gates). gates.generation) is ∙ ap (λ (k : Open). with_mark k (place_of n)) g
alone_known EPOCH fresh new n g e is = ap (λ (gates : Gates). gates.epoch) is ∙ ap (λ (k : Open). with_mark k (place_of n)) e
