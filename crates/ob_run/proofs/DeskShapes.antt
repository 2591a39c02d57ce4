-- What a desk's calls alone tell of it: with what it is stopped, whether an epoch is closed, how many transactions the running one has, and who has signed off.
use Rattle.std.proofs.Common.{◌≡◌, ◌∙◌, ◌+◌, ℕ, suc, ◌==◌, Bool, true, false, not, if◌then◌else◌, cond, List, [], ◌∷◌, ◌++◌, length, map, Option, None, Some, refl, sym, ap, ap₂, inl, inr, arith, option_map, unwrap_or}
use Rattle.std.specs.Option.{option_or, is_some}
use Rattle.std.specs.List.{count_by}
use Rattle.std.proofs.lemmas.Bool.{false≢true}
use Rattle.std.proofs.lemmas.List.{length-append, length-map, nil_from_length}
use Rattle.std.proofs.lemmas.List.Sums.{sum_by-cons}
use Rattle.ob_base.specs.declared.fault.Fault.{Fault}
use Rattle.ob_base.specs.declared.params.Params.{Params}
use Rattle.ob_serial.specs.declared.records.Why.TheVariants.{Stopped}
use Rattle.ob_serial.specs.declared.records.Outcome.{Outcome}
use Rattle.ob_serial.specs.declared.records.Outcome.TheVariants.{Aborted as AbortedBy}
use Rattle.ob_order.proofs.Edits.{length-edit}
use Rattle.ob_desk.specs.Desk as desk
use Rattle.ob_desk.specs.Desk.{DeskState, Part, Call, Reply, DeskStep, settle, settle_client, begin_client, sign_off_client, on_client, stop_holder, stop_part, stop_closed, stopped_by, is_memory}
use Rattle.ob_desk.specs.declared.clients.Client.{Client}
use Rattle.ob_desk.specs.declared.clients.Holder.{Holder}
use Rattle.ob_session.specs.Steps.{Leads}
use Rattle.ob_hall.specs.Passes.{Steps}
use Rattle.ob_conduct.specs.Ready.{IsFit}
use Rattle.ob_conduct.specs.Records.{IsOver}

pub record Shape : Type 0 where
  pub stop : Option Fault
  pub shut : Bool
  pub txns : ℕ
  pub signed : List (ℕ × Bool)

abbrev shape : Option Fault → Bool → ℕ → List (ℕ × Bool) → Shape
shape stop shut txns signed = record { stop = stop; shut = shut; txns = txns; signed = signed }

-- a client's number, and whether it has signed off
abbrev roll_of : Client → ℕ × Bool
roll_of c = (c.number, c.signed_off)

abbrev rolls : List Client → List (ℕ × Bool)
rolls cs = map roll_of cs

abbrev pub shape_of : DeskState → Shape
shape_of d = shape d.stop (is_some d.closed) (length d.running.holders) (rolls d.clients)

abbrev sign : ℕ → ℕ × Bool → ℕ × Bool
sign n p = if p.0 == n then (p.0, true) else p

abbrev shape_next : Shape → Call → Reply → Shape
shape_next s (desk.Begin n) (desk.Begun x) = record s { txns = suc s.txns }
shape_next s (desk.SignOff n) desk.Done = record s { signed = map (sign n) s.signed }
shape_next s (desk.Stop f) desk.Done = record s { stop = option_or s.stop (Some f); shut = if is_memory f then s.shut else false }
shape_next s (desk.Unsure f) desk.Done = record s { stop = option_or s.stop (Some f); shut = false }
shape_next s desk.Close (desk.Writes writes) = record s { shut = true; txns = 0 }
shape_next s (desk.Publish epoch left) (desk.Published told) = record s { shut = false }
shape_next s _ _ = s

-- ---- what a call does to it

shape_is : (stop : Option Fault) (shut : Bool) (n m : ℕ) (l k : List (ℕ × Bool)) → n ≡ m → l ≡ k → shape stop shut n l ≡ shape stop shut m k
shape_is stop shut n m l k e f = ap₂ (λ (x : ℕ) (y : List (ℕ × Bool)). shape stop shut x y) e f

rolls_same : (g : Client → Client) → ((c : Client) → roll_of (g c) ≡ roll_of c) → (cs : List Client) → rolls (map g cs) ≡ rolls cs
rolls_same g same [] = refl
rolls_same g same (c ∷ cs) = ap₂ (λ (x : ℕ × Bool) (xs : List (ℕ × Bool)). x ∷ xs) (same c) (rolls_same g same cs)

rolls_begun : (f : Client → Client) → ((c : Client) → roll_of (f c) ≡ roll_of c) → (n : ℕ) (cs : List Client) → rolls (on_client f cs n) ≡ rolls cs
rolls_begun f same n cs = rolls_same (λ c. if c.number == n then f c else c) (λ c. one c (c.number == n)) cs
  where
    one : (c : Client) (b : Bool) → roll_of (if b then f c else c) ≡ roll_of c
    one c true = same c
    one c false = refl

rolls_settled : (part : Part) (otherwise : Outcome ℕ) (cs : List Client) → rolls (settle part otherwise cs) ≡ rolls cs
rolls_settled part otherwise cs = rolls_same (settle_client part otherwise) (λ c. refl) cs

rolls_signed : (n : ℕ) (cs : List Client) → rolls (on_client sign_off_client cs n) ≡ map (sign n) (rolls cs)
rolls_signed n [] = refl
rolls_signed n (c ∷ cs) = ap₂ (λ (x : ℕ × Bool) (xs : List (ℕ × Bool)). x ∷ xs) (one (c.number == n)) (rolls_signed n cs)
  where
    one : (b : Bool) → roll_of (if b then sign_off_client c else c) ≡ (if b then (c.number, true) else roll_of c)
    one true = refl
    one false = refl

rolls_given_up : (f : Fault) (closed : Option Part) (cs : List Client) → rolls (unwrap_or (option_map (λ c. settle c (AbortedBy (Stopped f)) cs) closed) cs) ≡ rolls cs
rolls_given_up f None cs = refl
rolls_given_up f (Some part) cs = rolls_settled part (AbortedBy (Stopped f)) cs

one_longer : (hs : List Holder) (h : Holder) → length (hs ++ h ∷ []) ≡ suc (length hs)
one_longer hs h = let x = length-append hs (h ∷ []) in omega (arith, x)

abbrev halted : Fault → DeskState → DeskState
halted f d = record d { stop = option_or d.stop (Some f); running = stop_part f d.running }

shape_stopped : (d : DeskState) (f : Fault) → shape_of (stopped_by f d) ≡ shape (option_or d.stop (Some f)) (if is_memory f then is_some d.closed else false) (length d.running.holders) (rolls d.clients)
shape_stopped d f = by (is_memory f)
  where
    by : (b : Bool) → shape_of (if b then halted f d else stop_closed f (halted f d)) ≡ shape (option_or d.stop (Some f)) (if b then is_some d.closed else false) (length d.running.holders) (rolls d.clients)
    by true = shape_is (option_or d.stop (Some f)) (is_some d.closed) _ _ (rolls d.clients) (rolls d.clients) (length-map d.running.holders (stop_holder f)) refl
    by false = shape_is (option_or d.stop (Some f)) false _ _ _ _ (length-map d.running.holders (stop_holder f)) (rolls_given_up f d.closed d.clients)

shape_step : (d : DeskState) (call : Call) (reply : Reply) (new : DeskState) → DeskStep d call reply new → shape_of new ≡ shape_next (shape_of d) call reply
shape_step d (desk.Begin n) (desk.Begun x) new step = ap shape_of step.state ∙ shape_is d.stop (is_some d.closed) _ _ _ _ (one_longer d.running.holders _) (rolls_begun (begin_client x) (λ c. refl) n d.clients)
shape_step d (desk.Begin n) (desk.Refused f) new step = ap shape_of step.same
shape_step d (desk.GetKey x k) (desk.Value value) new step = ap shape_of step.state
shape_step d (desk.GetKey x k) desk.Waits new step = ap shape_of step.state
shape_step d (desk.GetKey x k) (desk.Aborted why) new (inl step) = ap shape_of step.same
shape_step d (desk.GetKey x k) (desk.Aborted why) new (inr (inl step)) = ap shape_of step.state ∙ shape_is d.stop (is_some d.closed) _ _ _ _ (length-edit _ d.running.holders x.ticket) refl
shape_step d (desk.GetKey x k) (desk.Aborted why) new (inr (inr step)) = ap shape_of step.state ∙ shape_is d.stop (is_some d.closed) _ _ _ _ (length-edit _ d.running.holders x.ticket) refl
shape_step d (desk.Poll x) (desk.Value value) new step = ap shape_of step.state
shape_step d (desk.Poll x) desk.Waits new step = ap shape_of step.same
shape_step d (desk.Poll x) (desk.Aborted why) new step = ap shape_of step.same
shape_step d (desk.Write x k value) desk.Done new step = ap shape_of step.state
shape_step d (desk.Write x k value) (desk.Aborted why) new (inl step) = ap shape_of step.same
shape_step d (desk.Write x k value) (desk.Aborted why) new (inr (inl step)) = ap shape_of step.state ∙ shape_is d.stop (is_some d.closed) _ _ _ _ (length-edit _ d.running.holders x.ticket) refl
shape_step d (desk.Write x k value) (desk.Aborted why) new (inr (inr step)) = ap shape_of step.state ∙ shape_is d.stop (is_some d.closed) _ _ _ _ (length-edit _ d.running.holders x.ticket) refl
shape_step d (desk.Commit x) desk.Done new step = ap shape_of step.state ∙ shape_is d.stop (is_some d.closed) _ _ _ _ (length-edit _ d.running.holders x.ticket) refl
shape_step d (desk.Commit x) (desk.Aborted why) new step = ap shape_of step.same
shape_step d (desk.Abort x) (desk.Aborted why) new (inl step) = ap shape_of step.same
shape_step d (desk.Abort x) (desk.Aborted why) new (inr step) = ap shape_of step.state ∙ shape_is d.stop (is_some d.closed) _ _ _ _ (length-edit _ d.running.holders x.ticket) refl
shape_step d (desk.Settled x) (desk.IsSettled outcome) new step = ap shape_of step.1
shape_step d desk.Looks (desk.Seen look) new step = ap shape_of step.1
shape_step d (desk.SignOff n) desk.Done new step = ap shape_of step.state ∙ shape_is d.stop (is_some d.closed) _ _ _ _ refl (rolls_signed n d.clients)
shape_step d (desk.Stop f) desk.Done new step = ap shape_of step.state ∙ shape_stopped d f
shape_step d (desk.Unsure f) desk.Done new step = ap shape_of step.state ∙ shape_is (option_or d.stop (Some f)) false _ _ _ _ (length-map d.running.holders (stop_holder f)) (rolls_settled step.part _ d.clients)
shape_step d desk.IsStopped (desk.StoppedBy fault) new step = ap shape_of step.1
shape_step d desk.TakeBatch (desk.Batch keys) new step = ap shape_of step.state
shape_step d (desk.Deliver keys values) desk.Done new step = ap shape_of step.state
shape_step d desk.Close (desk.Writes writes) new step = ap shape_of step.state
shape_step d (desk.Publish epoch left) (desk.Published told) new step = ap shape_of step.state ∙ shape_is d.stop false _ _ _ _ refl (rolls_settled step.part _ d.clients)
shape_step d _ _ new step = absurd step

abbrev shapes : Shape → Steps → Shape
shapes s [] = s
shapes s (step ∷ steps) = shapes (shape_next s step.0 step.1) steps

shape_run : (d : DeskState) (steps : Steps) (new : DeskState) → Leads d steps new → shape_of new ≡ shapes (shape_of d) steps
shape_run d [] new is = ap shape_of is
shape_run d (step ∷ steps) new (mid, may, one, rest) = shape_run mid steps new rest ∙ ap (λ (s : Shape). shapes s steps) (shape_step d step.0 step.1 mid one)

-- whatever desks these calls lead to
pub same_shape : (d : DeskState) (steps : Steps) (a b : DeskState) → Leads d steps a → Leads d steps b → shape_of a ≡ shape_of b
same_shape d steps a b first second = shape_run d steps a first ∙ sym (shape_run d steps b second)

-- ---- a desk that is over

none_if : (o : Option Part) → is_some o ≡ false → o ≡ None
none_if None is = refl
none_if (Some part) is = absurd (false≢true (sym is))

count_rolls : (cs : List Client) → count_by (λ c. not c.signed_off) cs ≡ count_by (λ (p : ℕ × Bool). not p.1) (rolls cs)
count_rolls [] = refl
count_rolls (c ∷ cs) =
    sum_by-cons (λ (x : Client). cond (not x.signed_off) 1 0) c cs
    ∙ (ap (λ (n : ℕ). cond (not c.signed_off) 1 0 + n) (count_rolls cs) ∙ sym (sum_by-cons (λ (p : ℕ × Bool). cond (not p.1) 1 0) (roll_of c) (rolls cs)))

pub over_too : (p : Params) (a b : DeskState) → shape_of a ≡ shape_of b → IsOver a → IsFit p a.running → IsFit p b.running → IsOver b
over_too p a b same o first second = record {
  at_rest = record {
    none_runs = nil_from_length b.running.order.works (sym second.even ∙ (sym (ap (λ (s : Shape). s.txns) same) ∙ (first.even ∙ ap length o.at_rest.none_runs)));
    none_closed = none_if b.closed (sym (ap (λ (s : Shape). s.shut) same) ∙ ap is_some o.at_rest.none_closed);
    not_stopped = sym (ap (λ (s : Shape). s.stop) same) ∙ o.at_rest.not_stopped;
  };
  signed_off = count_rolls b.clients ∙ (sym (ap (λ (s : Shape). count_by (λ (p : ℕ × Bool). not p.1) s.signed) same) ∙ (sym (count_rolls a.clients) ∙ o.signed_off));
}

-- each of its clients has signed off
count_head : (n m : ℕ) → n + m ≡ 0 → (n ≡ 0) × (m ≡ 0)
count_head n m is = (omega (arith, is), omega (arith, is))

abbrev one_unless : Bool → ℕ
one_unless b = cond (not b) 1 0

not_one : one_unless false ≡ 0 → ⊥
not_one is = omega (arith, is)

signed : (b : Bool) → one_unless b ≡ 0 → b ≡ true
signed true is = refl
signed false is = absurd (not_one is)

pub has_left : (cs : List Client) (number : ℕ) (client : Client) → count_by (λ c. not c.signed_off) cs ≡ 0 → desk.client_in cs number ≡ Some client → client.signed_off ≡ true
has_left [] number client none found = cc found
has_left (c ∷ cs) number client none found = by (c.number == number) found (λ behind. has_left cs number client parts.1 behind)
  where
    parts : (one_unless c.signed_off ≡ 0) × (count_by (λ (x : Client). not x.signed_off) cs ≡ 0)
    parts = count_head (one_unless c.signed_off) (count_by (λ (x : Client). not x.signed_off) cs) (sym (sum_by-cons (λ (x : Client). cond (not x.signed_off) 1 0) c cs) ∙ none)

    by : (b : Bool) → (if b then Some c else desk.client_in cs number) ≡ Some client → (desk.client_in cs number ≡ Some client → client.signed_off ≡ true) → client.signed_off ≡ true
    by true is on = ap (λ (o : Option Client). unwrap_or (option_map (λ (x : Client). x.signed_off) o) true) (sym is) ∙ signed c.signed_off parts.0
    by false is on = on is
