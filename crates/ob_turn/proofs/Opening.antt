-- The seats of a new turn, cut off one after another.
use Rattle.std.proofs.Common.{◌≡◌, ℕ, zero, suc, ◌+◌, ◌-◌, ◌<◌, true, false, List, [], ◌∷◌, ◌++◌, length, slice_index_or, sym, ◌∙◌, subst, arith, length-append}
use Rattle.atomic_table.specs.Seated.{TableId}
use Rattle.ob_turn.specs.TurnRule.{kept_back, handed_on, fresh_view}
use Rattle.ob_turn.specs.TurnCalls.{Turn, TurnSeat, AreSeats}

module _ {T E : Type 0} where
  -- the seat of the caller k has seen and done nothing
  abbrev pub FreshAt : TableId → T → ℕ → TurnSeat T E → Type 0
  FreshAt z x k seat = (seat.table_id ≡ z) × (seat.me ≡ (fresh_view x k 1 seat.me.0.cuts, []))

  -- so it is of all of them, from a caller on
  abbrev pub FreshFrom : TableId → T → ℕ → List (TurnSeat T E) → Type 0
  FreshFrom z x n seats = (k : ℕ) (d : TurnSeat T E) → k < length seats → FreshAt z x (n + k) (slice_index_or seats k d)

  -- the seats so far are fresh, and the last one has all other parts
  pub record IsMaking (z : TableId) (x : T) (seats : ℕ) (items : List (TurnSeat T E)) (last : TurnSeat T E) : Type 0 where
    pub fresh : FreshFrom z x 0 items
    pub table : last.table_id ≡ z
    pub parts : ℕ
    pub all : parts + length items ≡ seats
    pub knows : last.me ≡ (fresh_view x (length items) parts true, [])

  fresh_longer : (z : TableId) (x : T) (n : ℕ) (items : List (TurnSeat T E)) (seat : TurnSeat T E) → FreshFrom z x n items → FreshAt z x (n + length items) seat → FreshFrom z x n (items ++ seat ∷ [])
  fresh_longer z x n [] seat all new zero d lt = new
  fresh_longer z x n [] seat all new (suc k) d lt = absurd (omega (arith, lt))
  fresh_longer z x n (s ∷ ss) seat all new zero d lt = all zero d (omega arith)
  fresh_longer z x n (s ∷ ss) seat all new (suc k) d lt =
      let rest : FreshFrom z x (n + 1) ss = λ j e less. subst (λ (m : ℕ). FreshAt z x m (slice_index_or ss j e)) (omega arith) (all (suc j) e (omega (arith, less))) in
      let last : FreshAt z x ((n + 1) + length ss) seat = subst (λ (m : ℕ). FreshAt z x m seat) (omega arith) new in
      let less : k < length (ss ++ seat ∷ []) = omega (arith, lt) in
      subst (λ (m : ℕ). FreshAt z x m (slice_index_or (ss ++ seat ∷ []) k d)) (omega arith) (fresh_longer z x (n + 1) ss seat rest last k d less)

  pub begins : (z : TableId) (x : T) (seats : ℕ) (seat : TurnSeat T E) → seat.table_id ≡ z → seat.me ≡ (fresh_view x 0 seats true, []) → IsMaking z x seats [] seat
  begins z x seats seat table me = record {
    fresh = λ k d lt. absurd (omega (arith, lt));
    table = table;
    parts = seats;
    all = omega arith;
    knows = me;
  }

  -- One seat more is done.
  pub goes_on : (z : TableId) (x : T) (seats : ℕ) (items : List (TurnSeat T E)) (last kept next : TurnSeat T E) → IsMaking z x seats items last → length items + 1 < seats
      → kept.table_id ≡ last.table_id → next.table_id ≡ last.table_id → kept.me ≡ (kept_back last.me.0, last.me.1) → next.me ≡ (handed_on last.me.0, [])
      → IsMaking z x seats (items ++ kept ∷ []) next
  goes_on z x seats items last kept next m more same also k n =
      let long : length items + 1 ≡ length (items ++ kept ∷ []) = sym (length-append items (kept ∷ [])) in
      let now : kept.me ≡ (fresh_view x (length items) 1 false, []) = k ∙ (λ i. (kept_back (m.knows i).0, (m.knows i).1)) in
      record {
        fresh = fresh_longer z x 0 items kept m.fresh (same ∙ m.table, subst (λ (j : ℕ). kept.me ≡ (fresh_view x j 1 kept.me.0.cuts, [])) (omega arith) (now ∙ (λ i. (fresh_view x (length items) 1 (sym now i).0.cuts, []))));
        table = also ∙ m.table;
        parts = m.parts - 1;
        all = let a = m.all in omega (arith, long, a, more);
        knows = n ∙ ((λ i. (handed_on (m.knows i).0, [])) ∙ (λ i. (fresh_view x (long i) (m.parts - 1) true, [])));
      }

  -- The last seat is done.
  pub done : (turn : Turn T E) (z : TableId) (x : T) (seats : ℕ) (items made : List (TurnSeat T E)) (last : TurnSeat T E) → IsMaking z x seats items last → length items + 1 ≡ seats
      → turn.table.shared.table_id ≡ z → turn.table.shared.key.seats ≡ seats → made ≡ items ++ last ∷ [] → AreSeats turn x seats made
  done turn z x seats items made last m all table told is =
      let long : length (items ++ last ∷ []) ≡ length items + 1 = length-append items (last ∷ []) in
      let part : m.parts ≡ 1 = let p = m.all in omega (arith, p, all) in
      let now : last.me ≡ (fresh_view x (length items) 1 true, []) = m.knows ∙ (λ i. (fresh_view x (length items) (part i) true, [])) in
      let each : FreshFrom z x 0 (items ++ last ∷ []) =
      fresh_longer z x 0 items last m.fresh (m.table, subst (λ (j : ℕ). last.me ≡ (fresh_view x j 1 last.me.0.cuts, [])) (omega arith) (now ∙ (λ i. (fresh_view x (length items) 1 (sym now i).0.cuts, [])))) in
      let whole : AreSeats turn x seats (items ++ last ∷ []) = record {
        told = told;
        long = long ∙ all;
        fresh = λ k d lt. let f = each k d lt in record { own = f.0 ∙ sym table; knows = subst (λ (j : ℕ). (slice_index_or (items ++ last ∷ []) k d).me ≡ (fresh_view x j 1 (slice_index_or (items ++ last ∷ []) k d).me.0.cuts, [])) (omega arith) f.1 };
      } in
      subst (AreSeats turn x seats) (sym is) whole
