-- What is taken behind an opening's line is a front of a run's notes, by what is found behind it.
use Rattle.std.specs.Prelude.{◌≡◌, ◌<◌, ◌≤◌, ◌⊎◌, ℕ, ◌+◌, ◌-◌, ◌%◌, Bool, true, false, cond, List, [], ◌∷◌, ◌++◌, map, take, drop, length, Option, Some, None}
use Rattle.std.specs.List.{range_with_len}
use Rattle.std.proofs.Common.{zero, suc, refl, sym, ap, ◌∙◌, subst, inl, inr, arith, append_assoc, add-one}
use Rattle.std.proofs.lemmas.List.{length-append, append-nil}
use Rattle.std.proofs.lemmas.Bool.{lt-ltb, le-ltb}
use Rattle.ob_base.specs.declared.params.Params.{Params}
use Rattle.ob_base.specs.Layout.{GenerationTwin, EpochTwin, LogArea, check_cell, checkpoint_cells}
use Rattle.ob_store.specs.declared.watch.Note.{Note}
use Rattle.ob_store.specs.declared.watch.Note.TheVariants.{Read, Sync}
use Rattle.ob_schedule.specs.Schedule.{check_cells, first_reads, reads_of, region_cells, set_twin}
use Rattle.ob_schedule.specs.declared.want.Side.{Side}
use Rattle.ob_schedule.specs.declared.want.Gate.TheVariants.{Open}
use Rattle.ob_schedule.specs.declared.want.Register.TheVariants.{Generation}
use Rattle.ob_schedule.specs.declared.want.Change.TheVariants.{Settles}
use Rattle.ob_schedule.specs.declared.want.Want.{Want}
use Rattle.ob_schedule.specs.declared.want.Want.TheVariants.{Fixed, Checkpoint}
use Rattle.ob_schedule.specs.Sides.{other, side_number}
use Rattle.ob_schedule.specs.Standing.{StandingKnown}
use Rattle.ob_schedule.specs.Wants.{kept, sets, found_wants}
use Rattle.ob_schedule.specs.Follow.{Follow, taken_up, opened, opened_wants, newer_or_same}
use Rattle.ob_histories.specs.Fills.{AllFills, AreAllFills, public_at}
use Rattle.ob_histories.specs.Runs.{RunFound, opening_reads, opening_step, notes_shown, is_settled}
use Rattle.ob_histories.specs.Histories.{IsOpeningLeft, RunLeaves, found_formatted}
use Rattle.ob_histories.specs.Filled.{epoch_behind}
use Rattle.ob_histories.proofs.Ended.{other_side}
use Rattle.ob_histories.proofs.Places.{at, rest_of}
use Rattle.ob_histories.proofs.Finding.{holds_rest, epoch_at}
use Rattle.ob_histories.proofs.Openings.{op, opened_is, some_checks, less_one}
use Rattle.ob_histories.proofs.Fronts.{is_front, Exactly, Sure, Stood, Good, Behind, Shown, Result, Conv, conv_along, conv_map, conv_note, conv_kept, OneOf, conv_either}
use Rattle.ob_histories.proofs.FrontsSets.{Left, AnyLeft, AnyMore, conv_generation}
use Rattle.ob_histories.proofs.FrontsTurns.{Before, Turns, start}
use Rattle.ob_histories.proofs.FrontsEnds.{conv_turns}

-- it may be found: what stands, or what stands if the last end's gate was opened
abbrev pub MayBe : ℕ → ℕ → StandingKnown → Option StandingKnown → RunFound → Type 0
MayBe epoch generation s None x = Exactly epoch generation (rest_of s) x
MayBe epoch generation s (Some newer) x = Exactly epoch generation (rest_of s) x ⊎ Exactly (suc epoch) generation (rest_of newer) x

module _ (p : Params) (f : AllFills) (all : AreAllFills p f) (mirrored : Bool) (epoch generation : ℕ) (h : Follow) (good : Good p f epoch generation h) where
  abbrev opening : Bool → List Want → Follow
  opening chosen wants = op p f mirrored found_formatted h good.0 good.1.0 chosen wants

  -- a run that may have been, and what it leaves
  pub record Runs (ms : List Note) (y z : RunFound) : Type 0 where
    pub found : RunFound
    pub steps : ℕ
    pub shown : ℕ
    pub may : MayBe epoch generation h.stands h.newer found
    pub are : ms ≡ notes_shown p f mirrored found steps shown
    pub leaves : ((is_settled p f mirrored found steps shown ≡ true) × (RunLeaves p f mirrored found steps shown y × RunLeaves p f mirrored found steps shown z))
        ⊎ ((is_settled p f mirrored found steps shown ≡ false) × (((found ≡ y) ⊎ (found ≡ z)) × Behind p f epoch generation h.stands h.newer y z))

  abbrev ends : RunFound → List Note
  ends x = set_twin p GenerationTwin (suc x.generation) x.generation_gate

  split_step : (x : RunFound) → opening_step p f mirrored x ≡ opening_reads p f mirrored x ++ Sync ∷ ends x
  split_step x =
      let reads : List Note = reads_of (region_cells p GenerationTwin ++ region_cells p EpochTwin) ++ reads_of (check_cells p ((public_at p f x.epoch).epoch % 2)) ++ reads_of (region_cells p (LogArea (((public_at p f x.epoch).epoch + 1) % 2))) in
      ap (λ (ns : List Note). first_reads p mirrored ++ ns) (append_assoc reads (Sync ∷ []) (ends x)) ∙ sym (append_assoc (first_reads p mirrored) reads (Sync ∷ ends x))

  -- before the first sync nothing is settled
  unsettled : (x : RunFound) (ms rest : List Note) → MayBe epoch generation h.stands h.newer x → ms ++ rest ≡ opening_reads p f mirrored x → (y z : RunFound) → ((x ≡ y) ⊎ (x ≡ z)) → Behind p f epoch generation h.stands h.newer y z → Runs ms y z
  unsettled x ms rest may front y z same behind =
      let whole : ms ++ (rest ++ Sync ∷ ends x) ≡ opening_step p f mirrored x = sym (append_assoc ms rest (Sync ∷ ends x)) ∙ ap (λ (ns : List Note). ns ++ Sync ∷ ends x) front ∙ sym (split_step x) in
      let short : length ms ≤ length (opening_reads p f mirrored x) = omega (arith, ap (length {A = Note}) front, length-append ms rest) in
      record {
        found = x;
        steps = 0;
        shown = length ms;
        may = may;
        are = sym (subst (λ (ns : List Note). take (length ms) ns ≡ ms) whole (is_front ms (rest ++ Sync ∷ ends x)));
        leaves = inr (le-ltb (length (opening_reads p f mirrored x)) (length ms) short, (same, behind));
      }

  -- ---- what is found

  module _ (at_epoch : ℕ) (z0 : StandingKnown) (sure : Sure p f at_epoch generation z0) (tells : (x : RunFound) → Exactly at_epoch generation (rest_of z0) x → MayBe epoch generation h.stands h.newer x)
      (pick : (y z : RunFound) → Behind p f epoch generation h.stands h.newer y z → (x : RunFound) × (Exactly at_epoch generation (rest_of z0) x × ((x ≡ y) ⊎ (x ≡ z)))) where
    abbrev found_by : ℕ → Bool → Bool → RunFound
    found_by records generation_gate epoch_gate = record { epoch = at_epoch; generation = generation; records = records; generation_gate = generation_gate; epoch_gate = epoch_gate }

    abbrev reads : List Note
    reads = opening_reads p f mirrored (found_by 0 false false)

    abbrev set_wants : List Want
    set_wants = sets p Generation (other z0.generation) z0.generation_gate

    same_reads : (x : RunFound) → x.epoch ≡ at_epoch → reads ≡ opening_reads p f mirrored x
    same_reads x is = ap (λ (n : ℕ). opening_reads p f mirrored (record { epoch = n; generation = generation; records = 0; generation_gate = false; epoch_gate = false })) (sym is)

    stop_reads : (chosen : Bool) (ws : List Want) (ms rest : List Note) → ms ++ rest ≡ reads → Result p f epoch (opening chosen ws) Runs ms
    stop_reads chosen ws ms rest front = (
      generation,
      (
        (refl, (refl, good.1.1)),
        λ y z behind. (let picked = pick y z behind in
            unsettled picked.0 ms rest (tells picked.0 picked.1.0) (front ∙ same_reads picked.0 picked.1.0.at_epoch) y z picked.1.1 behind),
      ),
    )

    -- the setting
    abbrev Setting_of : Shown p f
    Setting_of = λ ms y z. Runs (reads ++ Sync ∷ ms) y z

    set_stops : AnyLeft p f at_epoch generation z0 sure 0 [] z0.generation_gate Setting_of
    set_stops was may ms rest front = by (length rest) refl
      where
        by : (n : ℕ) → length rest ≡ n → Left p f at_epoch generation z0 sure 0 [] was Setting_of ms n
        by zero lacks = tt
        by (suc n) lacks = λ y but left.
            (let x : RunFound = found_by y.records was y.epoch_gate in
            let shows : List Note = reads ++ Sync ∷ ms in
            let whole : shows ++ rest ≡ opening_step p f mirrored x = append_assoc reads (Sync ∷ ms) rest ∙ ap (λ (ns : List Note). reads ++ Sync ∷ ns) front ∙ sym (split_step x) in
            let less : suc n ≡ length (opening_step p f mirrored x) - length shows = omega (arith, lacks, sym (ap (length {A = Note}) whole), length-append shows rest) in
            let long : length reads < length shows = omega (arith, length-append reads (Sync ∷ ms)) in
            let leaves : RunLeaves p f mirrored x 0 (length shows) y = subst (λ (k : ℕ). IsOpeningLeft x k y) less (but.at_epoch, refl, refl, (but.of_generation, left)) in
            record {
              found = x;
              steps = 0;
              shown = length shows;
              may = tells x (record { at_epoch = refl; of_generation = refl; generation_gate = may; epoch_gate = but.epoch_gate; records = but.records });
              are = sym (subst (λ (ns : List Note). take (length shows) ns ≡ shows) whole (is_front shows rest));
              leaves = inl (lt-ltb (length reads) (length shows) long, (leaves, leaves));
            })

    abbrev settled : StandingKnown
    settled = record z0 { generation = other z0.generation; generation_gate = Open }

    before : Before p f all (suc generation) at_epoch 0 z0.logged settled
    before = record {
      holds = holds_rest p f z0 at_epoch (other z0.generation) Open z0.epoch_gate z0.logged z0.maybe sure.0;
      side = other_side z0.generation generation sure.1.side;
      opens = refl;
      at_records = inl (omega arith, refl);
      low = omega arith;
      few = sure.1.few;
      more = sure.1.more;
    }

    set_more : (most : ℕ) → AnyMore p f at_epoch generation z0 sure 0 [] most z0.generation_gate Setting_of
    set_more most was may =
        conv_map p f most at_epoch (start p f all (suc generation) at_epoch 0 settled) (Turns p f all (suc generation) at_epoch 0 z0.logged z0.maybe z0.epoch_gate) (λ ms y z. Setting_of (set_twin p GenerationTwin (suc generation) was ++ ms) y z)
        (λ ms y z then. (let x : RunFound = found_by then.records was then.is_open in record {
          found = x;
          steps = suc then.steps;
          shown = then.shown;
          may = tells x (record { at_epoch = refl; of_generation = refl; generation_gate = may; epoch_gate = then.may_gate; records = then.may_records });
          are = sym (append_assoc reads (Sync ∷ ends x) ms) ∙ (λ i. sym (split_step x) i ++ then.are i);
          leaves = inl (refl, ((then.of_y.0, then.of_y.1, then.left_y), (then.of_z.0, then.of_z.1, then.left_z)));
        }))
        (conv_turns p f all (suc generation) most at_epoch 0 z0.logged settled before)

    -- from some of the reads on
    conv_found : (most : ℕ) (chosen : Bool) (front ns : List Note) → front ++ ns ≡ reads → cond chosen (newer_or_same h.stands h.newer) h.stands ≡ z0
        → epoch_behind (opening chosen (Fixed Sync Settles ∷ set_wants)) epoch ≡ at_epoch
        → Conv p f most epoch (taken_up (opening chosen (kept ns ++ Fixed Sync Settles ∷ set_wants))) (λ ms y z. Runs (front ++ ms) y z)
    conv_found most chosen front ns are is index =
        let g : Follow = opening chosen (Fixed Sync Settles ∷ set_wants) in
        let next : Follow = taken_up (at p z0 0 [] [] set_wants) in
        let set : Conv p f most at_epoch next Setting_of = conv_generation p f at_epoch generation z0 sure 0 [] most Setting_of set_stops (set_more most) in
        let along : Conv p f most at_epoch next (λ ms y z. Runs (front ++ (ns ++ Sync ∷ ms)) y z) =
        conv_along p f most at_epoch next Runs (λ ms. reads ++ Sync ∷ ms) (λ ms. front ++ (ns ++ Sync ∷ ms)) (λ ms. ap (λ (xs : List Note). xs ++ Sync ∷ ms) (sym are) ∙ append_assoc front ns (Sync ∷ ms)) set in
        conv_kept p f most epoch (opening chosen []) ns (Fixed Sync Settles ∷ set_wants) (λ ms y z. Runs (front ++ ms) y z)
        (λ ms rest some_of some. stop_reads chosen [] (front ++ ms) rest (append_assoc front ms rest ∙ ap (λ (xs : List Note). front ++ xs) some_of ∙ are))
        (conv_note p f most epoch g next Sync (λ ms y z. Runs (front ++ (ns ++ ms)) y z) (λ given k takes filled. (takes.0, takes.1 ∙ (λ i. taken_up (at p (is i) 0 [] [] set_wants))))
        (stop_reads chosen (Fixed Sync Settles ∷ set_wants) (front ++ (ns ++ [])) [] (append-nil (front ++ (ns ++ [])) ∙ ap (λ (xs : List Note). front ++ xs) (append-nil ns) ∙ are))
        (subst (λ (n : ℕ). Conv p f most n next (λ ms y z. Runs (front ++ (ns ++ Sync ∷ ms)) y z)) (sym index) along))

    abbrev checks : ℕ → ℕ → List Note
    checks from n = reads_of (map (check_cell p (side_number z0.epoch)) (range_with_len from n))

    abbrev logs : List Note
    logs = reads_of (region_cells p (LogArea (side_number (other z0.epoch))))

    abbrev register_reads : List Note
    register_reads = reads_of (region_cells p GenerationTwin ++ region_cells p EpochTwin)

    abbrev registers : List Note
    registers = first_reads p mirrored ++ register_reads

    same_area : side_number z0.epoch ≡ (public_at p f at_epoch).epoch % 2
    same_area = sure.0.side ∙ ap (λ (n : ℕ). n % 2) (sym (epoch_at p f at_epoch))

    same_next : side_number (other z0.epoch) ≡ ((public_at p f at_epoch).epoch + 1) % 2
    same_next = other_side z0.epoch at_epoch sure.0.side ∙ ap (λ (n : ℕ). n % 2) (sym (add-one at_epoch) ∙ ap (λ (n : ℕ). n + 1) (sym (epoch_at p f at_epoch)))

    are_reads : registers ++ (checks 0 (checkpoint_cells p) ++ logs) ≡ reads
    are_reads =
        (λ i. registers ++ (reads_of (check_cells p (same_area i)) ++ reads_of (region_cells p (LogArea (same_next i)))))
        ∙ append_assoc (first_reads p mirrored) register_reads (reads_of (check_cells p ((public_at p f at_epoch).epoch % 2)) ++ reads_of (region_cells p (LogArea (((public_at p f at_epoch).epoch + 1) % 2))))
        ∙ ap (λ (ns : List Note). first_reads p mirrored ++ ns) (sym (append_assoc register_reads (reads_of (check_cells p ((public_at p f at_epoch).epoch % 2))) (reads_of (region_cells p (LogArea (((public_at p f at_epoch).epoch + 1) % 2))))))

    abbrev less : ℕ
    less = checkpoint_cells p - 1

    all_checks : checkpoint_cells p ≡ suc less
    all_checks = less_one (checkpoint_cells p) (some_checks p)

    abbrev first_check : Note
    first_check = Read (check_cell p (side_number z0.epoch) 0)

    abbrev more_reads : List Note
    more_reads = checks 1 less ++ logs

    more_wants : drop 1 (found_wants p z0) ≡ kept more_reads ++ Fixed Sync Settles ∷ set_wants
    more_wants = ap (λ (n : ℕ). drop 1 (kept (checks 0 n ++ logs) ++ Fixed Sync Settles ∷ set_wants)) all_checks

    with_first : registers ++ (first_check ∷ more_reads) ≡ reads
    with_first = ap (λ (n : ℕ). registers ++ (checks 0 n ++ logs)) (sym all_checks) ∙ are_reads

    -- what stands is sure
    conv_sure : (most : ℕ) → h.newer ≡ None → h.stands ≡ z0 → at_epoch ≡ epoch → Conv p f most epoch (opened mirrored h) Runs
    conv_sure most none is same =
        let found_reads : List Note = checks 0 (checkpoint_cells p) ++ logs in
        let wants : opened_wants p mirrored h.stands h.newer ≡ kept registers ++ (kept found_reads ++ Fixed Sync Settles ∷ set_wants) = (λ i. opened_wants p mirrored (is i) (none i)) in
        subst (λ (g : Follow). Conv p f most epoch g Runs) (sym (opened_is p f mirrored found_formatted h good.0 good.1.0 ∙ ap (opening false) wants))
        (conv_kept p f most epoch (opening false []) registers (kept found_reads ++ Fixed Sync Settles ∷ set_wants) Runs
        (λ ms rest front some. stop_reads false [] ms (rest ++ found_reads) (sym (append_assoc ms rest found_reads) ∙ ap (λ (ns : List Note). ns ++ found_reads) front ∙ are_reads))
        (conv_found most false registers found_reads are_reads is (sym same)))

    -- behind the first cell that tells
    conv_told : (most : ℕ) (chosen : Bool) → cond chosen (newer_or_same h.stands h.newer) h.stands ≡ z0 → epoch_behind (opening chosen (Fixed Sync Settles ∷ set_wants)) epoch ≡ at_epoch
        → Conv p f most epoch (taken_up (opening chosen (drop 1 (found_wants p z0)))) (λ ms y z. Runs (registers ++ (first_check ∷ ms)) y z)
    conv_told most chosen is index =
        subst (λ (ws : List Want). Conv p f most epoch (taken_up (opening chosen ws)) (λ ms y z. Runs (registers ++ (first_check ∷ ms)) y z)) (sym more_wants)
        (conv_along p f most epoch (taken_up (opening chosen (kept more_reads ++ Fixed Sync Settles ∷ set_wants))) Runs (λ ms. (registers ++ (first_check ∷ [])) ++ ms) (λ ms. registers ++ (first_check ∷ ms)) (λ ms. append_assoc registers (first_check ∷ []) ms)
        (conv_found most chosen (registers ++ (first_check ∷ [])) more_reads (append_assoc registers (first_check ∷ []) more_reads ∙ with_first) is index))

  -- ---- either

  conv_by : (most : ℕ) (newer : Option StandingKnown) → h.newer ≡ newer → Stood p f epoch generation h.stands newer → Conv p f most epoch (opened mirrored h) Runs
  conv_by most None none sure =
      conv_sure epoch h.stands sure (λ x is. subst (λ (o : Option StandingKnown). MayBe epoch generation h.stands o x) (sym none) is)
      (λ y z behind. (let only = subst (λ (o : Option StandingKnown). Behind p f epoch generation h.stands o y z) none behind in (y, (only.0, inl refl)))) most none refl refl
  conv_by most (Some newer) some (older_sure, (newer_sure, turned)) =
      let older : StandingKnown = h.stands in
      let older_tells : (x : RunFound) → Exactly epoch generation (rest_of older) x → MayBe epoch generation h.stands h.newer x = (λ x is. subst (λ (o : Option StandingKnown). MayBe epoch generation h.stands o x) (sym some) (inl is)) in
      let newer_tells : (x : RunFound) → Exactly (suc epoch) generation (rest_of newer) x → MayBe epoch generation h.stands h.newer x = (λ x is. subst (λ (o : Option StandingKnown). MayBe epoch generation h.stands o x) (sym some) (inr is)) in
      let older_pick : (y z : RunFound) → Behind p f epoch generation h.stands h.newer y z → (x : RunFound) × (Exactly epoch generation (rest_of older) x × ((x ≡ y) ⊎ (x ≡ z))) =
      (λ y z behind. (let both = subst (λ (o : Option StandingKnown). Behind p f epoch generation h.stands o y z) some behind in (y, (both.0, inl refl)))) in
      let newer_pick : (y z : RunFound) → Behind p f epoch generation h.stands h.newer y z → (x : RunFound) × (Exactly (suc epoch) generation (rest_of newer) x × ((x ≡ y) ⊎ (x ≡ z))) =
      (λ y z behind. (let both = subst (λ (o : Option StandingKnown). Behind p f epoch generation h.stands o y z) some behind in (z, (both.1, inr refl)))) in
      let regs : List Note = registers epoch older older_sure older_tells older_pick in
      let first : Note = first_check epoch older older_sure older_tells older_pick in
      let second : Note = first_check (suc epoch) newer newer_sure newer_tells newer_pick in
      let behind_first : List Note = first ∷ more_reads epoch older older_sure older_tells older_pick in
      let whole : regs ++ behind_first ≡ reads epoch older older_sure older_tells older_pick = with_first epoch older older_sure older_tells older_pick in
      let wants : opened_wants p mirrored h.stands h.newer ≡ kept regs ++ Checkpoint ∷ [] = ap (opened_wants p mirrored h.stands) some in
      let g : Follow = opening false (Checkpoint ∷ []) in
      let chosen : newer_or_same h.stands h.newer ≡ newer = ap (newer_or_same h.stands) some in
      let one_of : OneOf p f epoch g first (taken_up (opening false (drop 1 (found_wants p older)))) second (taken_up (opening true (drop 1 (found_wants p newer)))) = either newer some turned in
      subst (λ (k : Follow). Conv p f most epoch k Runs) (sym (opened_is p f mirrored found_formatted h good.0 good.1.0 ∙ ap (opening false) wants))
      (conv_kept p f most epoch (opening false []) regs (Checkpoint ∷ []) Runs
      (λ ms rest front more. stop_reads epoch older older_sure older_tells older_pick false [] ms (rest ++ behind_first) (sym (append_assoc ms rest behind_first) ∙ ap (λ (ns : List Note). ns ++ behind_first) front ∙ whole))
      (conv_either p f most epoch g (taken_up (opening false (drop 1 (found_wants p older)))) (taken_up (opening true (drop 1 (found_wants p newer)))) first second (λ ms y z. Runs (regs ++ ms) y z) one_of
      (stop_reads epoch older older_sure older_tells older_pick false (Checkpoint ∷ []) (regs ++ []) behind_first (ap (λ (ns : List Note). ns ++ behind_first) (append-nil regs) ∙ whole))
      (conv_told epoch older older_sure older_tells older_pick most false refl refl)
      (conv_told (suc epoch) newer newer_sure newer_tells newer_pick most true chosen (ap (λ (o : Option StandingKnown). elim o [ None ↦ epoch | Some s ↦ suc epoch ]) some))))
    where
      either : (newer : StandingKnown) → h.newer ≡ Some newer → newer.epoch ≡ other h.stands.epoch
          → OneOf p f epoch (opening false (Checkpoint ∷ [])) (Read (check_cell p (side_number h.stands.epoch) 0)) (taken_up (opening false (drop 1 (found_wants p h.stands)))) (Read (check_cell p (side_number newer.epoch) 0)) (taken_up (opening true (drop 1 (found_wants p newer))))
      either newer some turned given k (inl is) filled = inl (is.is, is.then)
      either newer some turned given k (inr is) filled =
          inr (is.is ∙ ap (λ (side : Side). Read (check_cell p (side_number side) 0)) (sym turned), is.then ∙ (λ i. taken_up (opening true (drop 1 (found_wants p (newer_or_same h.stands (some i)))))))

  pub conv_opening : (most : ℕ) → Conv p f most epoch (opened mirrored h) Runs
  conv_opening most = conv_by most h.newer refl good.1.1
