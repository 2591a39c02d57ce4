-- A new table keeps the rule, and so does the cut of a seat.
use Rattle.std.proofs.Common.{◌≡◌, ◌≢◌, ℕ, zero, suc, ◌+◌, ◌^◌, ◌<◌, ◌≤◌, true, List, [], ◌∷◌, ◌++◌, length, set, refl, ap, sym, ◌∙◌, subst, arith, inl, inr, ⊎_elim}
use mathlib.Core.Option.{Option as Opt, some, some-ne-none}
use lib.ListN.{get_elem?}
use Rattle.atomic_table.specs.Table.{State, Splits, opening}
use Rattle.atomic_table.proofs.Lists.{at_longer}
use Rattle.ob_turn.specs.declared.turn.Entry.{Entry}
use Rattle.ob_turn.specs.declared.turn.View.{View}
use Rattle.ob_turn.specs.declared.turn.Stage.{Stage}
use Rattle.ob_turn.specs.declared.turn.Stage.TheVariants.{Idle, Inside}
use Rattle.ob_turn.specs.declared.turn.Slot.{Slot}
use Rattle.ob_turn.specs.declared.turn.Slot.TheVariants.{Rests}
use Rattle.ob_turn.specs.TurnRule.{queued, readied, HasTicketAt, HasTicket, HasName, parts_of, queued_of, readied_of, FitsStage, IsJoinedAway, SeatFits, Home, TurnKept, kept_back, handed_on, first_view}
use Rattle.std.specs.List.{All}
use Rattle.std.proofs.lemmas.List.Elements.{All-nil, All-weaker}
use Rattle.ob_turn.proofs.Totals.{total_set, total_snoc, stay, stay_longer, unique_same, unique_longer}
use Rattle.ob_turn.proofs.TurnSteps.{home_stays, settled_stays}

module _ (T E : Type 0) (steps : ℕ → T → E → T → Type 0) (opened : T) (seats : ℕ) where
  abbrev P : Type 0
  P = View T E

  abbrev Rule : State (Slot T E) (View T E) → Type 0
  Rule s = TurnKept steps opened seats s

  home_longer : (log : List (Entry E)) (homes : List (Opt (Slot T E))) (views : List P) (u : P) → ((k : ℕ) → u.stage ≢ Inside k)
      → Home steps opened log homes views → Home steps opened log homes (views ++ u ∷ [])
  home_longer log homes views u not h = ⊎_elim
      (λ t. inl (t.0, t.1, t.2, t.3, t.4, λ by k v e. stay_longer (λ (j : ℕ) (z : P). z.stage ≢ Inside k) views u (λ j z a. t.5 j k z a) (not k) by v e))
      (λ t. let x = t.1 in inr (t.0, (x.0, x.1, x.2, at_longer views (u ∷ []) x.0 x.2 x.3, x.4)))
      h

  -- A new seat knows of none that was joined, and its caller is new.
  settled_longer : (log : List (Entry E)) (names : ℕ) (views : List P) (u : P) → names ≤ u.by → u.joined ≡ []
      → ((i : ℕ) (z : P) → get_elem? views i ≡ some z → All (IsJoinedAway opened log names views) z.joined)
      → (i : ℕ) (z : P) → get_elem? (views ++ u ∷ []) i ≡ some z → All (IsJoinedAway opened log (names + 1) (views ++ u ∷ [])) z.joined
  settled_longer log names views u new none_joined old i z ati =
      All-weaker (IsJoinedAway opened log names views) (IsJoinedAway opened log (names + 1) (views ++ u ∷ []))
      (λ gone s. let below : gone.by < names = s.named in record {
        opening_is = s.opening_is;
        prefix = s.prefix;
        named = omega (arith, below);
        own = s.own;
        no_seat = stay_longer (λ (n : ℕ) (z : P). 0 < z.parts → z.by ≡ gone.by → ⊥) views u (λ n z b p e. s.no_seat n z b p e) (λ _ e. absurd (omega (arith, e, below, new)));
      })
      z.joined
      (stay_longer (λ (n : ℕ) (z : P). All (IsJoinedAway opened log names views) z.joined) views u (λ n z b. old n z b)
      (subst (All (IsJoinedAway opened log names views)) (sym none_joined) (All-nil (IsJoinedAway opened log names views))) i z ati)

  pub splits : (id : ℕ) (v : P) → v.stage ≡ Idle → v.cuts ≡ true → 2 ≤ v.parts → Splits {S = Slot T E} Rule id v (kept_back v) (handed_on v)
  splits id v is cuts two s r at =
      let w : P = kept_back v in
      let u : P = handed_on v in
      let fit = r.each id v at in
      let cutter = fit.cuts cuts in
      let last : v.by + 1 ≡ r.names = cutter.1 in
      let named = fit.named cutter.2 in
      let waits : queued v.stage ≡ 0 = ap queued is in
      let unready : readied v.stage ≡ 0 = ap readied is in
      let views' : List P = set s.views id w in
      let joined : (j : ℕ) (z : P) → get_elem? views' j ≡ some z → 0 < z.parts → z.by < r.names =
      stay (λ (j : ℕ) (z : P). 0 < z.parts → z.by < r.names) s.views id w (λ _. named.0) (λ j z _ b p. ((r.each j z b).named p).0) in
      let idle : FitsStage r.log r.ticket u u.stage = subst (FitsStage r.log r.ticket u) (sym is) tt in
      record {
        log = r.log;
        ticket = r.ticket;
        cutter = length views';
        names = r.names + 1;
        some_seat = r.some_seat;
        few = r.few;
        words = r.words;
        parts = omega (arith, total_set parts_of s.views id v w at, total_snoc parts_of views' u, r.parts, two);
        queue = omega (arith, total_set queued_of s.views id v w at, total_snoc queued_of views' u, waits, r.queue);
        bound = omega (arith, total_set readied_of s.views id v w at, total_snoc readied_of views' u, unready, r.bound);
        each = stay_longer (SeatFits opened r.log r.ticket (length views') (r.names + 1) seats) views' u
            (stay (SeatFits opened r.log r.ticket (length views') (r.names + 1) seats) s.views id w
            record { opening_is = λ _. fit.opening_is cutter.2; prefix = fit.prefix; named = λ _. (omega (arith, last), named.1); cuts = λ e. absurd (cc e); stage = subst (FitsStage r.log r.ticket w) (sym is) tt }
            (λ j z ne a. let f = r.each j z a in record {
              opening_is = f.opening_is;
              prefix = f.prefix;
              named = λ p. let n = f.named p in let below = n.0 in (omega (arith, below), n.1);
              cuts = λ e. absurd (ne ((f.cuts e).0 ∙ sym cutter.0));
              stage = f.stage;
            }))
            record {
              opening_is = λ _. fit.opening_is cutter.2;
              prefix = fit.prefix;
              named = λ _. (omega (arith, last), r.unnamed (v.by + 1) (omega (arith, last)));
              cuts = λ _. (refl, omega (arith, last), omega (arith, two), omega (arith, two, cutter.3));
              stage = idle;
            };
        one_turn = unique_longer HasTicket views' u (unique_same HasTicket s.views id v w r.one_turn at (λ k h. h)) (λ k j z h _ _. subst (λ (q : Stage). HasTicketAt q k) is h);
        one_name = unique_longer HasName views' u (unique_same HasName s.views id v w r.one_name at (λ k h. (cutter.2, h.1)))
            (λ k j z h a g. let below = joined j z a g.0 in let p = h.1 in let q = g.1 in omega (arith, below, last, p, q));
        settled = settled_longer r.log r.names views' u (omega (arith, last)) refl (settled_stays T E steps opened seats r.log r.names s.views id v w at refl (λ _. (cutter.2, refl)) r.settled);
        covered = omega (arith, last, two, cutter.3);
        legal = r.legal;
        unnamed = λ by above. r.unnamed by (omega (arith, above));
        home = home_longer r.log s.homes views' u (λ k e. cc (is, e)) (home_stays T E steps opened seats r.log s.homes s.views id v w at (λ k e. cc (is, e)) (λ k e. cc (is, e)) r.home);
      }

  pub opens : 1 ≤ seats → seats ≤ 2 ^ 62 → Rule (opening (0 ∷ 0 ∷ []) (Rests opened ∷ []) (first_view opened seats))
  opens one_part few = record {
    log = [];
    ticket = 0;
    cutter = 0;
    names = 1;
    some_seat = one_part;
    few = few;
    words = refl;
    parts = omega arith;
    queue = refl;
    bound = omega arith;
    each = λ j v e. stay_longer (SeatFits opened [] 0 0 1 seats) [] (first_view opened seats) (λ k z a. absurd (some-ne-none z (sym a)))
        record { opening_is = λ _. refl; prefix = ([], refl); named = λ _. (omega arith, refl); cuts = λ _. (refl, refl, omega (arith, one_part), omega arith); stage = tt } j v e;
    one_turn = λ i j k v w a b h _. absurd (stay_longer (λ (n : ℕ) (z : P). HasTicketAt z.stage k → ⊥) [] (first_view opened seats) (λ n z q. absurd (some-ne-none z (sym q))) (λ g. g) i v a h);
    one_name = λ i j k v w a b _ _. alone i v a ∙ sym (alone j w b);
    settled = λ i v a. stay_longer (λ (n : ℕ) (z : P). All (IsJoinedAway opened [] 1 (first_view opened seats ∷ [])) z.joined) [] (first_view opened seats) (λ n z q. absurd (some-ne-none z (sym q))) (All-nil (IsJoinedAway opened [] 1 (first_view opened seats ∷ []))) i v a;
    covered = one_part;
    legal = (opened, refl);
    unnamed = λ by _. refl;
    home = inl (Rests opened, opened, refl, refl, refl, λ j m v e. stay_longer (λ (n : ℕ) (z : P). z.stage ≢ Inside m) [] (first_view opened seats) (λ n z q. absurd (some-ne-none z (sym q))) (λ p. cc p) j v e);
  }
    where
      alone : (i : ℕ) (v : P) → get_elem? (first_view opened seats ∷ []) i ≡ some v → i ≡ 0
      alone zero v e = refl
      alone (suc i) v e = absurd (some-ne-none v (sym e))
