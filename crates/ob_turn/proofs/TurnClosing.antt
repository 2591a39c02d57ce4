-- The seats of a turn that is closed, taken in one after another.
use Rattle.std.proofs.Common.{◌≡◌, ℕ, ◌+◌, List, [], ◌∷◌, ◌++◌, ap, sym, ◌∙◌, subst, arith, append_assoc}
use Rattle.std.specs.List.{All, sum_by}
use Rattle.std.proofs.lemmas.List.Elements.{All-nil, All-cons, All-head, All-tail, All-weaker}
use Rattle.std.proofs.lemmas.List.Sums.{sum_by_push}
use Rattle.atomic_table.specs.Seated.{TableId}
use Rattle.ob_turn.specs.declared.turn.Entry.{Entry}
use Rattle.ob_turn.specs.declared.turn.View.{View}
use Rattle.ob_turn.specs.declared.turn.Joined.{Joined}
use Rattle.ob_turn.specs.History.{longer, TellsOf, TellsSeats}
use Rattle.ob_turn.specs.TurnRule.{both_views, joined_of}
use Rattle.ob_turn.specs.TurnCalls.{Turn, TurnSeat, IsIdle, Joins, Whole}
use Rattle.ob_turn.proofs.Prefixes.{prefix_trans, longer-left}

module _ {A : Type 0} (P : A → Type 0) where
  pub all_left : (xs ys : List A) → All P (xs ++ ys) → All P xs
  all_left [] ys h = All-nil P
  all_left (x ∷ xs) ys h = All-cons P x xs (All-head P x (xs ++ ys) h) (all_left xs ys (All-tail P x (xs ++ ys) h))

  pub all_right : (xs ys : List A) → All P (xs ++ ys) → All P ys
  all_right [] ys h = h
  all_right (x ∷ xs) ys h = all_right xs ys (All-tail P x (xs ++ ys) h)

  pub last_of : (xs : List A) (x : A) → All P (xs ++ x ∷ []) → P x
  last_of xs x h = All-head P x [] (all_right xs (x ∷ []) h)

module _ {T E : Type 0} (steps : ℕ → T → E → T → Type 0) where
  -- whatever the first seat tells of a history, it tells for the second too
  abbrev pub Carries : View T E → View T E → Type 0
  Carries v w = (log : List (Entry E)) (x : T) → TellsSeats steps log x v → TellsSeats steps log x w

  abbrev TellsJoined : List (Entry E) → T → Joined T E → Type 0
  TellsJoined log x j = TellsOf steps log x j.opening j.by j.seen j.mine

  both_left : (v w : View T E) → Carries (both_views v w) v
  both_left v w log x t = record {
    seat = record { legal = t.seat.legal; prefix = prefix_trans v.seen (longer v.seen w.seen) log (longer-left v.seen w.seen) t.seat.prefix; own = t.seat.own };
    joined = all_left (TellsJoined log x) v.joined (w.joined ++ joined_of w ∷ []) t.joined;
  }

  both_right : (v w : View T E) → Carries (both_views v w) w
  both_right v w log x t =
      let rest : All (TellsJoined log x) (w.joined ++ joined_of w ∷ []) = all_right (TellsJoined log x) v.joined (w.joined ++ joined_of w ∷ []) t.joined in
      let last : TellsJoined log x (joined_of w) = last_of (TellsJoined log x) w.joined (joined_of w) rest in record {
        seat = record { legal = last.legal; prefix = last.prefix; own = last.own };
        joined = all_left (TellsJoined log x) w.joined (joined_of w ∷ []) rest;
      }

  -- Some seats were taken in, of all that there were, and the others stay.
  pub record IsGathering (z : TableId) (all items : List (TurnSeat T E)) (seat : TurnSeat T E) : Type 0 where
    pub taken : List (TurnSeat T E)
    pub split : all ≡ items ++ taken
    pub carried : All (λ (s : TurnSeat T E). Carries seat.me.0 s.me.0) taken
    pub own : (seat.table_id ≡ z) × All (λ (s : TurnSeat T E). s.table_id ≡ z) items
    pub idle : IsIdle seat × All (λ (s : TurnSeat T E). IsIdle s) items
    pub parts : seat.me.0.parts + sum_by (λ (s : TurnSeat T E). s.me.0.parts) items ≡ sum_by (λ (s : TurnSeat T E). s.me.0.parts) all

  pub begins : (z : TableId) (all items : List (TurnSeat T E)) (seat : TurnSeat T E) → all ≡ items ++ seat ∷ []
      → All (λ (s : TurnSeat T E). s.table_id ≡ z) all → All (λ (s : TurnSeat T E). IsIdle s) all → IsGathering z all items seat
  begins z all items seat e own idle =
      let owns : All (λ (s : TurnSeat T E). s.table_id ≡ z) (items ++ seat ∷ []) = subst (All (λ (s : TurnSeat T E). s.table_id ≡ z)) e own in
      let idles : All (λ (s : TurnSeat T E). IsIdle s) (items ++ seat ∷ []) = subst (All (λ (s : TurnSeat T E). IsIdle s)) e idle in
      let sum : sum_by (λ (s : TurnSeat T E). s.me.0.parts) (items ++ seat ∷ []) ≡ sum_by (λ (s : TurnSeat T E). s.me.0.parts) items + seat.me.0.parts = sum_by_push (λ (s : TurnSeat T E). s.me.0.parts) items seat in
      let same : sum_by (λ (s : TurnSeat T E). s.me.0.parts) all ≡ sum_by (λ (s : TurnSeat T E). s.me.0.parts) (items ++ seat ∷ []) = ap (sum_by (λ (s : TurnSeat T E). s.me.0.parts)) e in record {
        taken = seat ∷ [];
        split = e;
        carried = All-cons (λ (s : TurnSeat T E). Carries seat.me.0 s.me.0) seat [] (λ log x t. t) (All-nil (λ (s : TurnSeat T E). Carries seat.me.0 s.me.0));
        own = (last_of (λ (s : TurnSeat T E). s.table_id ≡ z) items seat owns, all_left (λ (s : TurnSeat T E). s.table_id ≡ z) items (seat ∷ []) owns);
        idle = (last_of (λ (s : TurnSeat T E). IsIdle s) items seat idles, all_left (λ (s : TurnSeat T E). IsIdle s) items (seat ∷ []) idles);
        parts = omega (arith, sum, same);
      }

  -- One more is taken in.
  pub goes_on : (z : TableId) (all items less : List (TurnSeat T E)) (seat other next : TurnSeat T E) → IsGathering z all items seat → items ≡ less ++ other ∷ [] → Joins seat other next → IsGathering z all less next
  goes_on z all items less seat other next g e j =
      let f : TurnSeat T E → ℕ = λ s. s.me.0.parts in
      let owns : All (λ (s : TurnSeat T E). s.table_id ≡ z) (less ++ other ∷ []) = subst (All (λ (s : TurnSeat T E). s.table_id ≡ z)) e g.own.1 in
      let idles : All (λ (s : TurnSeat T E). IsIdle s) (less ++ other ∷ []) = subst (All (λ (s : TurnSeat T E). IsIdle s)) e g.idle.1 in
      let sum : sum_by (λ (s : TurnSeat T E). s.me.0.parts) (less ++ other ∷ []) ≡ sum_by (λ (s : TurnSeat T E). s.me.0.parts) less + other.me.0.parts = sum_by_push (λ (s : TurnSeat T E). s.me.0.parts) less other in
      let same : sum_by (λ (s : TurnSeat T E). s.me.0.parts) items ≡ sum_by (λ (s : TurnSeat T E). s.me.0.parts) (less ++ other ∷ []) = ap (sum_by (λ (s : TurnSeat T E). s.me.0.parts)) e in
      let both : next.me.0 ≡ both_views seat.me.0 other.me.0 = λ i. (j.knows i).0 in
      let parts : next.me.0.parts ≡ seat.me.0.parts + other.me.0.parts = λ i. (both i).parts in
      let some_part = g.idle.0.some_part in record {
        taken = other ∷ g.taken;
        split = g.split ∙ (ap (λ (l : List (TurnSeat T E)). l ++ g.taken) e ∙ append_assoc less (other ∷ []) g.taken);
        carried = subst (λ (v : View T E). All (λ (s : TurnSeat T E). Carries v s.me.0) (other ∷ g.taken)) (sym both)
            (All-cons (λ (s : TurnSeat T E). Carries (both_views seat.me.0 other.me.0) s.me.0) other g.taken (both_right seat.me.0 other.me.0)
            (All-weaker (λ (s : TurnSeat T E). Carries seat.me.0 s.me.0) (λ (s : TurnSeat T E). Carries (both_views seat.me.0 other.me.0) s.me.0)
            (λ s c log x t. c log x (both_left seat.me.0 other.me.0 log x t)) g.taken g.carried));
        own = (j.same.table ∙ g.own.0, all_left (λ (s : TurnSeat T E). s.table_id ≡ z) less (other ∷ []) owns);
        idle = (
          record { stage = (λ i. (both i).stage) ∙ g.idle.0.stage; some_part = omega (arith, parts, some_part); empty = λ i. (j.knows i).1 },
          all_left (λ (s : TurnSeat T E). IsIdle s) less (other ∷ []) idles,
        );
        parts = let p = g.parts in omega (arith, p, sum, same, parts);
      }

  -- At the end the one seat tells for all.
  pub ends : (turn : Turn T E) (z : TableId) (all items : List (TurnSeat T E)) (seat : TurnSeat T E) (x : T) → IsGathering z all items seat → items ≡ [] → Whole steps turn (seat ∷ []) x → Whole steps turn all x
  ends turn z all items seat x g none_left w =
      let told : TellsSeats steps w.log x seat.me.0 = All-head (λ (s : TurnSeat T E). TellsSeats steps w.log x s.me.0) seat [] w.told in
      let same : all ≡ g.taken = g.split ∙ ap (λ (l : List (TurnSeat T E)). l ++ g.taken) none_left in record {
        log = w.log;
        told = subst (All (λ (s : TurnSeat T E). TellsSeats steps w.log x s.me.0)) (sym same)
            (All-weaker (λ (s : TurnSeat T E). Carries seat.me.0 s.me.0) (λ (s : TurnSeat T E). TellsSeats steps w.log x s.me.0) (λ s c. c w.log x told) g.taken g.carried);
        no_others = w.no_others;
      }
