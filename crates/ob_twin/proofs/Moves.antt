-- What an image stands at after a change of one place of a register.
use Rattle.std.proofs.Common.{◌≡◌, ◌≢◌, ◌⊎◌, inl, inr, ⊎_elim, ℕ, ◌+◌, ◌%◌, ◌^◌, ◌<◌, ◌≤◌, List, ◌++◌, take, drop, length, replicate, Bool, true, false, IsTrue, refl, sym, ◌∙◌, ap, subst, arith, append_assoc}
use Rattle.std.specs.Bool.{Decides}
use Rattle.std.specs.Str.{bytes_eq}
use Rattle.std.specs.Int.{w64, to_le_bytes, from_le_bytes}
use Rattle.std.proofs.lemmas.Slice.Eq.{bytes_eq-Decides}
use Rattle.std.proofs.lemmas.List.{take_at}
use Rattle.std.proofs.Math.Seq.{take-append_seam, drop-append_seam}
use Rattle.std.proofs.lemmas.Nat.{from_le_bytes-to_le_bytes_8}
use Rattle.ob_store.specs.Disk.{Clock, Disk, Image, NotAfter}
use Rattle.ob_store.specs.Images.{SameBut, IsSynced, IsImageOf, LeavesOnly, Passes}
use Rattle.ob_store.proofs.Moments.{then_on, weakened, passes_so, passed_then}
use Rattle.ob_twin.specs.Bodies.{Tagging, IsStamped, open_gate, closed_gate, number_of, plain_of, body_of}
use Rattle.ob_twin.specs.Register.{body_at, gate_at, place_of, IsOpen, IsUnder, StandsAt, KeepsAt, IsPrepared, OldOrNew, SameOutside, SameTwo, IsTornOnly}

decided : (r : Bool) (P : Type 0) → Decides r P → P ⊎ (P → ⊥)
decided true P test = inl (test.0 refl)
decided false P test = inr (λ p. let wrong : false ≡ true = test.1 p in cc)

pub same_or_not : (xs ys : List ℕ) → (xs ≡ ys) ⊎ (xs ≢ ys)
same_or_not xs ys = decided (bytes_eq xs ys) (xs ≡ ys) (bytes_eq-Decides xs ys)

pub closed-isnt-open : closed_gate ≢ open_gate
unfolding closed_gate open_gate
closed-isnt-open is = cc

plain_length : (n : ℕ) → length (plain_of n) ≡ 112
unfolding plain_of
plain_length n = refl

take_plain : (n : ℕ) (tag : List ℕ) → take 112 (plain_of n ++ tag) ≡ plain_of n
take_plain n tag = ap (λ k. take k (plain_of n ++ tag)) (sym (plain_length n)) ∙ take-append_seam (plain_of n) tag

drop_plain : (n : ℕ) (tag : List ℕ) → drop 112 (plain_of n ++ tag) ≡ tag
drop_plain n tag = ap (λ k. drop k (plain_of n ++ tag)) (sym (plain_length n)) ∙ drop-append_seam (plain_of n) tag

pub stamped-body : (tag : Tagging) (cell n : ℕ) → IsStamped tag cell (body_of tag cell n)
stamped-body tag cell n = drop_plain n (tag cell (plain_of n)) ∙ ap (tag cell) (sym (take_plain n (tag cell (plain_of n))))

number-plain : (n : ℕ) (tag : List ℕ) → n < 2 ^ 62 → number_of (plain_of n ++ tag) ≡ n
unfolding number_of plain_of
number-plain n tag small =
    ap (λ (l : List ℕ). from_le_bytes w64 (take 8 l)) (append_assoc (to_le_bytes w64 n) (replicate 104 0) tag)
    ∙ ap (λ (l : List ℕ). from_le_bytes w64 l) (take_at (to_le_bytes w64 n) (replicate 104 0 ++ tag) 8 refl)
    ∙ from_le_bytes-to_le_bytes_8 n (omega arith)

pub number-body : (tag : Tagging) (cell n : ℕ) → n < 2 ^ 62 → number_of (body_of tag cell n) ≡ n
number-body tag cell n small = number-plain n (tag cell (plain_of n)) small

outside : (first k j : ℕ) → (k < first) ⊎ (first + 4 ≤ k) → first ≤ j → j < first + 4 → k ≢ j
outside first k j (inl low) a b = omega arith
outside first k j (inr high) a b = omega arith

-- two cells of a register are within it
pub two_within : (first place : ℕ) (a b : Image) → place < 2 → SameTwo (body_at first place) (gate_at first place) a b → SameOutside first a b
two_within first place a b lt same k out = same k (outside first k _ out (omega arith) (omega arith)) (outside first k _ out (omega arith) (omega arith))

module _ (tag : Tagging) (first m q : ℕ) (from : Image) (is : q ≡ (m + 1) % 2) (stands : StandsAt tag first from m) where
  pub kept : (c : Image) → SameTwo (body_at first q) (gate_at first q) c from → IsUnder tag first c q m → KeepsAt tag first from m c
  kept c same under =
      let g : c (gate_at first (m % 2)) ≡ from (gate_at first (m % 2)) = same (gate_at first (m % 2)) (omega arith) (omega arith) in
      let b : c (body_at first (m % 2)) ≡ from (body_at first (m % 2)) = same (body_at first (m % 2)) (omega arith) (omega arith) in
      record {
        stands = record {
          small = stands.small;
          open_at = g ∙ stands.open_at;
          stamped = subst (λ (l : List ℕ). IsStamped tag (body_at first (m % 2)) l) (sym b) stands.stamped;
          number = ap number_of b ∙ stands.number;
          other = subst (λ p. IsUnder tag first c p m) is under;
        };
        rest = λ k out. same k (outside first k _ out (omega arith) (omega arith)) (outside first k _ out (omega arith) (omega arith));
      }

  pub kept_shut : (c : Image) → SameTwo (body_at first q) (gate_at first q) c from → c (gate_at first q) ≢ open_gate → KeepsAt tag first from m c
  kept_shut c same shut = kept c same (λ open_now. absurd (shut open_now))

  under_from : IsUnder tag first from q m
  under_from = subst (λ p. IsUnder tag first from p m) (sym is) stands.other

  -- an open gate that is torn
  pub kept_open : (c : Image) → from (gate_at first q) ≡ open_gate → SameBut (gate_at first q) c from → KeepsAt tag first from m c
  kept_open c was same =
      let e : c (body_at first q) ≡ from (body_at first q) = same _ (omega arith) in
      kept c (λ k _ other. same k other)
      (λ _. subst (λ (l : List ℕ). IsStamped tag (body_at first q) l × (number_of l ≤ m) × (place_of (number_of l) ≡ q)) (sym e) (under_from was))

  pub kept_same : (c : Image) → ((k : ℕ) → c k ≡ from k) → KeepsAt tag first from m c
  kept_same c same =
      let e : c (body_at first q) ≡ from (body_at first q) = same _ in
      kept c (λ k _ _. same k)
      (λ open_now. subst (λ (l : List ℕ). IsStamped tag (body_at first q) l × (number_of l ≤ m) × (place_of (number_of l) ≡ q)) (sym e) (under_from (sym (same (gate_at first q)) ∙ open_now)))

  -- the closing write, where there is one
  pub kept_torn : (closes : Bool) (c : Image) → (IsTrue closes → from (gate_at first q) ≡ open_gate) → IsTornOnly closes (gate_at first q) c from → KeepsAt tag first from m c
  kept_torn true c opened torn = kept_open c (opened refl) torn
  kept_torn false c opened torn = kept_same c torn

module _ (tag : Tagging) (first n : ℕ) (from : Image) (small : n < 2 ^ 62) (under : IsUnder tag first from ((n + 1) % 2) n) where
  pub new_one : (c : Image) → SameTwo (body_at first (n % 2)) (gate_at first (n % 2)) c from → c (gate_at first (n % 2)) ≡ open_gate
      → c (body_at first (n % 2)) ≡ body_of tag (body_at first (n % 2)) n → KeepsAt tag first from n c
  new_one c same opened body =
      let g : c (gate_at first ((n + 1) % 2)) ≡ from (gate_at first ((n + 1) % 2)) = same _ (omega arith) (omega arith) in
      let b : c (body_at first ((n + 1) % 2)) ≡ from (body_at first ((n + 1) % 2)) = same _ (omega arith) (omega arith) in
      record {
        stands = record {
          small = small;
          open_at = opened;
          stamped = subst (λ (l : List ℕ). IsStamped tag (body_at first (n % 2)) l) (sym body) (stamped-body tag (body_at first (n % 2)) n);
          number = ap number_of body ∙ number-body tag (body_at first (n % 2)) n small;
          other = λ open_now. subst (λ (l : List ℕ). IsStamped tag (body_at first ((n + 1) % 2)) l × (number_of l ≤ n) × (place_of (number_of l) ≡ (n + 1) % 2)) (sym b) (under (sym g ∙ open_now));
        };
        rest = λ k out. same k (outside first k _ out (omega arith) (omega arith)) (outside first k _ out (omega arith) (omega arith));
      }

-- the old number is under the new one
pub under_next : (tag : Tagging) (first m n : ℕ) (from : Image) → n ≡ m + 1 → StandsAt tag first from m → IsUnder tag first from ((n + 1) % 2) n
under_next tag first m n from next stands opened =
    let place : m % 2 ≡ (n + 1) % 2 = omega arith in
    let number = stands.number in
    subst (λ p. IsStamped tag (body_at first p) (from (body_at first p)) × (number_of (from (body_at first p)) ≤ n) × (place_of (number_of (from (body_at first p))) ≡ p)) place
    (stands.stamped, omega arith, ap (λ x. x % 2) number)

-- behind the prepared gate, torn or not
pub torn_open : (tag : Tagging) (first m n : ℕ) (from mid c : Image) → n ≡ m + 1 → n < 2 ^ 62 → StandsAt tag first from m → IsPrepared tag first from n mid → SameBut (gate_at first (n % 2)) c mid
    → OldOrNew tag first from m n c
torn_open tag first m n from mid c next small stands ready same =
    let here : SameTwo (body_at first (n % 2)) (gate_at first (n % 2)) c from = λ k a b. same k b ∙ ready.rest k a b in
    let body : c (body_at first (n % 2)) ≡ body_of tag (body_at first (n % 2)) n = same _ (omega arith) ∙ ready.body in
    ⊎_elim
    (λ opened. inr (new_one tag first n from small (under_next tag first m n from next stands) c here opened body))
    (λ shut. inl (kept_shut tag first m (n % 2) from (ap (λ x. x % 2) next) stands c here shut))
    (same_or_not (c (gate_at first (n % 2))) open_gate)

-- the run up to the prepared body, and the gate's write behind it
pub opening : (tag : Tagging) (first m n : ℕ) (old mid new : Disk) → n ≡ m + 1 → n < 2 ^ 62 → StandsAt tag first old.cells m → LeavesOnly old mid (KeepsAt tag first old.cells m) → IsPrepared tag first old.cells n mid.cells
    → LeavesOnly mid new (λ c. SameBut (gate_at first (n % 2)) c mid.cells) → LeavesOnly old new (OldOrNew tag first old.cells m n)
opening tag first m n old mid new next small stands so_far ready last =
    then_on old mid new (OldOrNew tag first old.cells m n)
    (weakened old mid (KeepsAt tag first old.cells m) (OldOrNew tag first old.cells m n) (λ c kept. inl kept) so_far)
    (weakened mid new (λ c. SameBut (gate_at first (n % 2)) c mid.cells) (OldOrNew tag first old.cells m n) (λ c same. torn_open tag first m n old.cells mid.cells c next small stands ready same) last)

-- the run up to the closed gate, and the body's write behind it
pub preparing : (tag : Tagging) (first m n : ℕ) (closes : Bool) (old mid new : Disk) → n ≡ m + 1 → StandsAt tag first old.cells m → (IsTrue closes → IsOpen first old.cells (n % 2))
    → LeavesOnly old mid (λ c. IsTornOnly closes (gate_at first (n % 2)) c old.cells) → SameBut (gate_at first (n % 2)) mid.cells old.cells → mid.cells (gate_at first (n % 2)) ≢ open_gate
    → LeavesOnly mid new (λ c. SameBut (body_at first (n % 2)) c mid.cells) → LeavesOnly old new (KeepsAt tag first old.cells m)
preparing tag first m n closes old mid new next stands opened so_far rest shut last =
    let is : n % 2 ≡ (m + 1) % 2 = ap (λ x. x % 2) next in
    then_on old mid new (KeepsAt tag first old.cells m)
    (weakened old mid (λ c. IsTornOnly closes (gate_at first (n % 2)) c old.cells) (KeepsAt tag first old.cells m) (λ c torn. kept_torn tag first m (n % 2) old.cells is stands closes c opened torn) so_far)
    (weakened mid new (λ c. SameBut (body_at first (n % 2)) c mid.cells) (KeepsAt tag first old.cells m)
    (λ c same. kept_shut tag first m (n % 2) old.cells is stands c (λ k a b. same k a ∙ rest k b) (λ o. shut (sym (same _ (omega arith)) ∙ o)))
    last)

pub closing : (tag : Tagging) (first m n : ℕ) (closes : Bool) (old new : Disk) → n ≡ m + 1 → StandsAt tag first old.cells m → (IsTrue closes → IsOpen first old.cells (n % 2))
    → LeavesOnly old new (λ c. IsTornOnly closes (gate_at first (n % 2)) c old.cells) → LeavesOnly old new (KeepsAt tag first old.cells m)
closing tag first m n closes old new next stands opened so_far =
    let is : n % 2 ≡ (m + 1) % 2 = ap (λ x. x % 2) next in
    weakened old new (λ c. IsTornOnly closes (gate_at first (n % 2)) c old.cells) (KeepsAt tag first old.cells m) (λ c torn. kept_torn tag first m (n % 2) old.cells is stands closes c opened torn) so_far

-- an image with the same cells
pub kept_everywhere : (tag : Tagging) (first n : ℕ) (from c d : Image) → ((k : ℕ) → c k ≡ d k) → KeepsAt tag first from n d → KeepsAt tag first from n c
kept_everywhere tag first n from c d same kept =
    let stands = kept.stands in
    let b = same (body_at first (n % 2)) in
    record {
      stands = record {
        small = stands.small;
        open_at = same (gate_at first (n % 2)) ∙ stands.open_at;
        stamped = subst (λ (l : List ℕ). IsStamped tag (body_at first (n % 2)) l) (sym b) stands.stamped;
        number = ap number_of b ∙ stands.number;
        other = λ opened. subst (λ (l : List ℕ). IsStamped tag (body_at first ((n + 1) % 2)) l × (number_of l ≤ n) × (place_of (number_of l) ≡ (n + 1) % 2)) (sym (same (body_at first ((n + 1) % 2)))) (stands.other (sym (same (gate_at first ((n + 1) % 2))) ∙ opened));
      };
      rest = λ k out. same k ∙ kept.rest k out;
    }

-- what a crash may leave at the end of a run is among what it leaves at its moments
pub at_the_end : (old new : Disk) (P : Image → Type 0) → ((t : Clock) (c : Image) → NotAfter t new.moment → new.may_leave c → new.left_since t c) → LeavesOnly old new P → (c : Image) → new.may_leave c → P c
at_the_end old new P counts run c left = run.each c (counts old.moment c run.later left)

-- and what reads give then has it too
pub images_at_end : (old new : Disk) (P : Image → Type 0) → ((t : Clock) (c : Image) → NotAfter t new.moment → new.may_leave c → new.left_since t c) → LeavesOnly old new P → (c : Image) → IsImageOf new c → P c
images_at_end old new P counts run c is = ⊎_elim (λ left. at_the_end old new P counts run c left) (λ read. subst P (sym read.1) (run.told read.0)) is

-- nothing waits for a sync: each image is what reads give
pub settled_image : (d : Disk) → IsSynced d → (c : Image) → IsImageOf d c → (k : ℕ) → c k ≡ d.cells k
settled_image d settled c is = ⊎_elim (λ left. settled c left) (λ read k. ap (λ (i : Image). i k) read.1) is

-- one cell of a register is within it
pub one_within : (first cell : ℕ) (a b : Image) → first ≤ cell → cell < first + 4 → SameBut cell a b → SameOutside first a b
one_within first cell a b from to same k out = same k (apart out)
  where
    apart : (k < first) ⊎ (first + 4 ≤ k) → k ≢ cell
    apart (inl low) = omega arith
    apart (inr high) = omega arith

pub outside_again : (first : ℕ) (c d e : Image) → SameOutside first c d → SameOutside first d e → SameOutside first c e
outside_again first c d e one two k out = one k out ∙ two k out

-- a write of one of a register's cells
pub passes_within : (first cell : ℕ) (old new : Disk) → first ≤ cell → cell < first + 4 → Passes (SameBut cell) old new → Passes (SameOutside first) old new
passes_within first cell old new from to passes = passes_so (SameBut cell) (SameOutside first) old new (λ c d same. one_within first cell c d from to same) passes

-- one such write after another
pub passes_both : (first : ℕ) (old mid new : Disk) → Passes (SameOutside first) old mid → Passes (SameOutside first) mid new → Passes (SameOutside first) old new
passes_both first old mid new one two = passed_then (SameOutside first) old mid new (outside_again first) one two
