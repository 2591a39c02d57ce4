use Rattle.std.proofs.Common.{◌≡◌, ◌<◌, ◌^◌, ℕ, suc, Err, [], ◌∷◌, ◌++◌, length, inl, inr, refl, sym, ap, subst, ◌∙◌, rules}
use mathlib.Core.Path.{fun_ext}
use Rattle.ob_store.specs.Disk.{Image}
use Rattle.ob_store.specs.Runs.{from_on}
use Rattle.ob_store.specs.Told.{Tells, TellsFirst}
use Rattle.ob_store.proofs.Doing.{tells_then, first_more, first_behind, first_all}
use Rattle.ob_seal.specs.Sealing.{Sealing}
use Rattle.ob_cells.specs.Orders.{read_notes}
use Rattle.ob_flat.specs.Rows.{AreRows}
use Rattle.ob_flat.specs.Reads.{AreRowsRead}
use Rattle.ob_flat.proofs.RowReads.{read_alike}
use Rattle.ob_start.specs.declared.registers.Numbers.{Numbers}
use Rattle.ob_start.specs.Orders.{registers_notes, begin_notes}
use Rattle.ob_start.proofs.Noted.{reads_front}
use Rattle.ob_start.proofs.Early.{noted_reads, read_both}
use Rattle.ob_flat.specs.Places.{area_of}
use Rattle.ob_flat.specs.Orders.{found_notes}
use Rattle.ob_flat.specs.Openings.{ReadsAlone}
use Rattle.ob_flat.specs.Standing.{StandsFlat}
use Rattle.ob_twin.specs.declared.gates.Gates.{Gates}
use Rattle.ob_twin.specs.Keyed.{tagging}
use Rattle.ob_twin.proofs.Clear.{both_clear, clear_but, none_clear}
use Rattle.ob_twin.specs.Opening.{GatesAre}
use Rattle.ob_twin.proofs.Frames.{gates_moved}
use Rattle.ob_flat.proofs.Moved.{stands_same, generation_set}
use Rattle.ob_flat.proofs.Opens.{reads_before, reads_both, keeps_both, begun_before, begin_before, opens_from, opens_or_not, begins_or_not, begins_next, all_after, alone_still, worn_out}
use Rattle.ob_flat.proofs.Opened.{values_of, number_found, rows_opening, begin_opening}
use Rattle.ob_flat.proofs.preparing.open_into.Goals as goal

-- ---- the registers were refused

pub returns-in-Err-clause-opening : goal.returns-in-Err-clause-opening
returns-in-Err-clause-opening g c =
    let old = g.S.Store.disk c.args.store.now in
    let new = g.S.Store.disk c.read_registers.new.store in
    let keys = c.args.params.now.keys in
    let e = c.read_registers.ensures in
    let reads : TellsFirst registers_notes old.seen new.seen (g.W.Watch.trace c.args.watch.now) (g.W.Watch.trace c.read_registers.new.watch) = reads_front Numbers registers_notes _ _ _ _ c.in-Err.fault c.in-Err.ensures.does in
    record {
      value = search rules;
      begins = tt;
      opened = λ at tells stands. tt;
      crash = λ at tells stands all. reads_before c.args.sealer.now.keys c.args.params.now old new at stands all (g.met.S.Store.only_now c.args.store.now) e.passes;
      since = inl e.passes;
      register = inl e.passes;
      order = inl reads;
      clear = λ tells cell low. inl (inl (ap (λ (i : Image). i cell) (e.passes.told tells).1));
      unwritten = λ own. record { epoch = 0; told = first_more _ _ _ _ registers_notes (read_notes (area_of keys 0) keys) reads; keeps = e.keeps; passes = e.passes };
    }

-- ---- the rows were refused

pub returns-in-Err-read_values-clause-opening : goal.returns-in-Err-read_values-clause-opening
returns-in-Err-read_values-clause-opening g c =
    let old = g.S.Store.disk c.args.store.now in
    let one = g.S.Store.disk c.read_registers.new.store in
    let new = g.S.Store.disk c.read_values.new.store in
    let sealed_by = c.args.sealer.now.keys in
    let keys = c.args.params.now.keys in
    let numbers = c.in-Ok.numbers in
    let values = c.read_values.new.values.items in
    let fault = c.in-Err-read_values.fault in
    let e = c.in-Err-read_values.ensures in
    let keeps = c.read_registers.ensures.keeps in
    let passes = reads_both old one new c.read_registers.ensures.passes c.read_values.ensures.passes in
    let shown_one = g.W.Watch.trace c.read_registers.new.watch in
    let shown_new = g.W.Watch.trace c.read_values.new.watch in
    let reads = subst (λ b. TellsFirst (read_notes b keys) one.seen new.seen shown_one shown_new) c.area_of-base.ensures.area
    (subst (λ n. TellsFirst (read_notes c.area_of-base.result n) one.seen new.seen shown_one shown_new) c.requires.whole e.does.first) in
    record {
      value = λ tells.
          let read = read_alike sealed_by c.area_of-base.result one.cells old.cells values (Err fault) (keeps.cells tells) (e.value (keeps.tells tells)) in
          rows_opening sealed_by keys old.cells numbers.generation numbers.epoch values fault (c.in-Ok.ensures.value tells) (c.read_values.ensures.whole ∙ c.requires.whole) e.faults
          (subst (λ b. AreRowsRead sealed_by b old.cells values (Err fault)) c.area_of-base.ensures.area read);
      begins = tt;
      opened = λ at tells stands. tt;
      crash = λ at tells stands all. reads_before sealed_by c.args.params.now old new at stands all (g.met.S.Store.only_now c.args.store.now) passes;
      since = inl passes;
      register = inl passes;
      order = inr (record {
        known = c.read_registers.new.gates.generation;
        gates = c.in-Ok.ensures.generation;
        generation = numbers.generation;
        epoch = numbers.epoch;
        found = c.in-Ok.ensures.value;
        told = first_behind _ _ _ _ _ _ registers_notes (read_notes (area_of keys numbers.epoch) keys ++ begin_notes c.read_registers.new.gates.generation (suc numbers.generation)) c.in-Ok.ensures.does
            (first_more _ _ _ _ (read_notes (area_of keys numbers.epoch) keys) (begin_notes c.read_registers.new.gates.generation (suc numbers.generation)) reads);
      });
      clear = λ tells cell low. inl (inl (ap (λ (i : Image). i cell) (passes.told tells).1));
      unwritten = λ own. record {
        epoch = numbers.epoch;
        told = first_behind _ _ _ _ _ _ registers_notes (read_notes (area_of keys numbers.epoch) keys) c.in-Ok.ensures.does reads;
        keeps = keeps_both old one new keeps c.read_values.ensures.keeps;
        passes = passes;
      };
    }

-- ---- the generation was refused

pub returns-in-Err-begin-clause-opening : goal.returns-in-Err-begin-clause-opening
returns-in-Err-begin-clause-opening g c =
    let p = c.args.params.now in
    let old = g.S.Store.disk c.args.store.now in
    let one = g.S.Store.disk c.read_registers.new.store in
    let mid = g.S.Store.disk c.read_values.new.store in
    let new = g.S.Store.disk c.begin.new.store in
    let sealed_by = c.args.sealer.now.keys in
    let numbers = c.in-Ok.numbers in
    let values = c.read_values.new.values.items in
    let fault = c.in-Err-begin.fault in
    let first = c.read_registers.ensures.keeps in
    let second = c.read_values.ensures.keeps in
    let passes = reads_both old one mid c.read_registers.ensures.passes c.read_values.ensures.passes in
    let keeps = keeps_both old one mid first second in
    let read = read_both old.seen one.seen mid.seen (noted_reads (1 ∷ 2 ∷ 3 ∷ 4 ∷ 5 ∷ 6 ∷ 7 ∷ 8 ∷ []) old.seen one.seen c.in-Ok.ensures.does.seen)
    (noted_reads (from_on c.area_of-base.result (length c.args.values.items)) one.seen mid.seen c.in-Ok-read_values.ensures.does.all.seen) in
    let shown_one = g.W.Watch.trace c.read_registers.new.watch in
    let shown_mid = g.W.Watch.trace c.read_values.new.watch in
    let area = read_notes (area_of p.keys numbers.epoch) p.keys in
    let reads = subst (λ b. Tells (read_notes b p.keys) (read_notes b p.keys) one.seen mid.seen shown_one shown_mid) c.area_of-base.ensures.area
    (subst (λ n. Tells (read_notes c.area_of-base.result n) (read_notes c.area_of-base.result n) one.seen mid.seen shown_one shown_mid) c.requires.whole c.in-Ok-read_values.ensures.does.all) in
    record {
      value = λ tells.
          let same : one.cells ≡ old.cells = fun_ext (λ k. first.cells tells k) in
          let read = subst (λ (image : Image). AreRows sealed_by (area_of p.keys numbers.epoch) image values) same (subst (λ b. AreRows sealed_by b one.cells values) c.area_of-base.ensures.area (c.in-Ok-read_values.ensures.value (first.tells tells))) in
          begin_opening sealed_by p.keys old.cells numbers.generation numbers.epoch values fault (c.in-Ok.ensures.value tells) (c.read_values.ensures.whole ∙ c.requires.whole) read c.in-Err-begin.ensures.faults;
      begins = tt;
      opened = λ at tells stands. tt;
      crash = λ at tells stands all.
          let told = first.tells tells in
          let same : (k : ℕ) → mid.cells k ≡ old.cells k = λ k. second.cells told k ∙ first.cells tells k in
          let found = c.in-Ok.ensures.value tells in
          let number = number_found sealed_by 1 old.cells stands.0 numbers.generation stands.1.begun found.generation_whole found.generation_counts in
          let at_number = subst (λ n. StandsFlat sealed_by p n mid.cells at) (sym number) (stands_same sealed_by p stands.0 at mid.cells old.cells same stands.1) in
          begun_before sealed_by p old mid new at stands all (g.met.S.Store.only_now c.args.store.now) passes same
          (begin_before g.S.Store.disk sealed_by p at numbers.generation c.read_values.new.store c.begin.new.store at_number (second.tells told) (all_after sealed_by p old mid all passes)
          (g.met.S.Store.only_now c.read_values.new.store) c.begin.result c.begin.ensures.leaves);
      since = opens_or_not g.S.Store.disk sealed_by p numbers.generation c.args.store.now c.read_values.new.store c.begin.new.store read passes keeps
          (λ h at tells stands. number_found sealed_by 1 old.cells h numbers.generation stands.begun (c.in-Ok.ensures.value tells).generation_whole (c.in-Ok.ensures.value tells).generation_counts)
          c.in-Err-begin.ensures.leaves;
      register = begins_or_not g.S.Store.disk sealed_by numbers.generation c.args.store.now c.read_values.new.store c.begin.new.store read passes keeps
          (λ h tells at. number_found sealed_by 1 old.cells h numbers.generation at (c.in-Ok.ensures.value tells).generation_whole (c.in-Ok.ensures.value tells).generation_counts)
          c.in-Err-begin.ensures.leaves;
      order = inr (record {
        known = c.read_registers.new.gates.generation;
        gates = c.in-Ok.ensures.generation;
        generation = numbers.generation;
        epoch = numbers.epoch;
        found = c.in-Ok.ensures.value;
        told = first_behind _ _ _ _ _ _ registers_notes (area ++ begin_notes c.read_registers.new.gates.generation (suc numbers.generation)) c.in-Ok.ensures.does
            (first_behind _ _ _ _ _ _ area (begin_notes c.read_registers.new.gates.generation (suc numbers.generation)) reads c.in-Err-begin.ensures.does.first);
      });
      clear = λ tells. clear_but (tagging sealed_by) old.cells mid.cells new.cells
          (none_clear (tagging sealed_by) old.cells mid.cells (λ cell low. ap (λ (i : Image). i cell) (passes.told (c.begin.ensures.serves.goes.told tells)).1)) new.seen (c.in-Err-begin.ensures.clear tells);
      unwritten = λ own.
          let alone : ReadsAlone p.keys old mid (g.W.Watch.trace c.args.watch.now) shown_mid = record {
            epoch = numbers.epoch;
            told = first_all _ _ _ _ (found_notes p.keys numbers.epoch) (tells_then registers_notes registers_notes area area _ _ _ _ _ _ c.in-Ok.ensures.does reads);
            keeps = keeps;
            passes = passes;
          } in
          alone_still g.S.Store.disk g.W.Watch.trace p.keys old (g.W.Watch.trace c.args.watch.now) c.read_values.new.store c.begin.new.store c.read_values.new.watch c.begin.new.watch
          (c.in-Err-begin.ensures.untouched (worn_out numbers.generation fault c.in-Err-begin.ensures.faults own)) alone;
    }

-- ---- opened

pub returns-clause-opening : goal.returns-clause-opening
returns-clause-opening g c =
    let p = c.args.params.now in
    let old = g.S.Store.disk c.args.store.now in
    let one = g.S.Store.disk c.read_registers.new.store in
    let mid = g.S.Store.disk c.read_values.new.store in
    let new = g.S.Store.disk c.begin.new.store in
    let sealed_by = c.args.sealer.now.keys in
    let numbers = c.in-Ok.numbers in
    let values = c.read_values.new.values.items in
    let first = c.read_registers.ensures.keeps in
    let second = c.read_values.ensures.keeps in
    let begun = c.in-Ok-begin.ensures in
    let passes = reads_both old one mid c.read_registers.ensures.passes c.read_values.ensures.passes in
    let keeps = keeps_both old one mid first second in
    let read = read_both old.seen one.seen mid.seen (noted_reads (1 ∷ 2 ∷ 3 ∷ 4 ∷ 5 ∷ 6 ∷ 7 ∷ 8 ∷ []) old.seen one.seen c.in-Ok.ensures.does.seen)
    (noted_reads (from_on c.area_of-base.result (length c.args.values.items)) one.seen mid.seen c.in-Ok-read_values.ensures.does.all.seen) in
    let generation_is : c.new.result.generation ≡ c.in-Ok-begin.generation = ap (λ (s : Sealing). s.generation) c.new.ensures in
    record {
      value = λ tells.
          let same : one.cells ≡ old.cells = fun_ext (λ k. first.cells tells k) in
          record {
            old = numbers.generation;
            found = c.in-Ok.ensures.value tells;
            next = generation_is ∙ begun.next.0;
            small = subst (λ n. n < 2 ^ 62) (sym generation_is) begun.next.1;
            whole = c.read_values.ensures.whole ∙ c.requires.whole;
            rows = subst (λ (image : Image). AreRows sealed_by (area_of p.keys numbers.epoch) image values) same (subst (λ b. AreRows sealed_by b one.cells values) c.area_of-base.ensures.area (c.in-Ok-read_values.ensures.value (first.tells tells)));
          };
      begins =
          let gates : old.tells → GatesAre c.begin.new.gates.epoch 5 old.cells = λ tells. subst (λ k. GatesAre k 5 old.cells) (sym (ap (λ (x : Gates). x.epoch) begun.gates)) (c.in-Ok.ensures.epoch tells) in
          record {
            params = refl;
            sealer = record { keys_are = ap (λ (s : Sealing). s.keys) c.new.ensures ∙ c.keys.ensures; none_sealed = ap (λ (s : Sealing). s.next) c.new.ensures };
            durable = λ tells. begun.durable (second.tells (first.tells tells));
            gates = gates;
            tell = λ tells.
                let told = first.tells tells in
                gates_moved c.begin.new.gates.epoch 5 new.cells old.cells
                (λ k from to. c.begin.ensures.rest (second.tells told) k (inr from) ∙ (second.cells told k ∙ first.cells tells k))
                (gates tells);
          };
      opened = λ at tells stands.
          let told = first.tells tells in
          let same : (k : ℕ) → mid.cells k ≡ old.cells k = λ k. second.cells told k ∙ first.cells tells k in
          let found = c.in-Ok.ensures.value tells in
          let number = number_found sealed_by 1 old.cells stands.0 numbers.generation stands.1.begun found.generation_whole found.generation_counts in
          let epoch = number_found sealed_by 5 old.cells at.epoch numbers.epoch stands.1.epoch found.epoch_whole found.epoch_counts in
          let at_number = subst (λ n. StandsFlat sealed_by p n mid.cells at) (sym number) (stands_same sealed_by p stands.0 at mid.cells old.cells same stands.1) in
          let cells : one.cells ≡ old.cells = fun_ext (λ k. first.cells tells k) in
          let rows = subst (λ e. AreRows sealed_by (area_of p.keys e) old.cells values) epoch
          (subst (λ (image : Image). AreRows sealed_by (area_of p.keys numbers.epoch) image values) cells (subst (λ b. AreRows sealed_by b one.cells values) c.area_of-base.ensures.area (c.in-Ok-read_values.ensures.value told))) in
          let generation : suc numbers.generation ≡ c.new.result.generation = sym begun.next.0 ∙ sym generation_is in
          let stands_new = subst (λ n. StandsFlat sealed_by p n new.cells at) generation (generation_set sealed_by p at numbers.generation (suc numbers.generation) new.cells mid.cells (begun.stands (second.tells told) at_number.begun) at_number) in
          record {
            epoch = epoch;
            content = values_of sealed_by p stands.0 at old.cells values (c.read_values.ensures.whole ∙ c.requires.whole) stands.1 rows;
            stands = stands_new;
            images = λ image left. stands_same sealed_by p c.new.result.generation at image new.cells (begun.durable (second.tells told) image left) stands_new;
          };
      crash = λ at tells stands all.
          let told = first.tells tells in
          let same : (k : ℕ) → mid.cells k ≡ old.cells k = λ k. second.cells told k ∙ first.cells tells k in
          let found = c.in-Ok.ensures.value tells in
          let number = number_found sealed_by 1 old.cells stands.0 numbers.generation stands.1.begun found.generation_whole found.generation_counts in
          let at_number = subst (λ n. StandsFlat sealed_by p n mid.cells at) (sym number) (stands_same sealed_by p stands.0 at mid.cells old.cells same stands.1) in
          begun_before sealed_by p old mid new at stands all (g.met.S.Store.only_now c.args.store.now) passes same
          (begin_before g.S.Store.disk sealed_by p at numbers.generation c.read_values.new.store c.begin.new.store at_number (second.tells told) (all_after sealed_by p old mid all passes)
          (g.met.S.Store.only_now c.read_values.new.store) c.begin.result c.begin.ensures.leaves);
      since = opens_from g.S.Store.disk sealed_by p numbers.generation c.args.store.now c.read_values.new.store c.begin.new.store read passes keeps
          (λ h at tells stands. number_found sealed_by 1 old.cells h numbers.generation stands.begun (c.in-Ok.ensures.value tells).generation_whole (c.in-Ok.ensures.value tells).generation_counts)
          begun.leaves.0;
      register = begins_next g.S.Store.disk sealed_by numbers.generation c.args.store.now c.read_values.new.store c.begin.new.store read passes keeps
          (λ h tells at. number_found sealed_by 1 old.cells h numbers.generation at (c.in-Ok.ensures.value tells).generation_whole (c.in-Ok.ensures.value tells).generation_counts)
          _ (generation_is ∙ begun.next.0)
          (λ tells at. (begun.stands tells at).stands)
          begun.leaves.0;
      order =
          let shown_one = g.W.Watch.trace c.read_registers.new.watch in
          let shown_mid = g.W.Watch.trace c.read_values.new.watch in
          let shown_new = g.W.Watch.trace c.begin.new.watch in
          let known = c.read_registers.new.gates.generation in
          let area = read_notes (area_of p.keys numbers.epoch) p.keys in
          let last = begin_notes known c.new.result.generation in
          let reads = subst (λ b. Tells (read_notes b p.keys) (read_notes b p.keys) one.seen mid.seen shown_one shown_mid) c.area_of-base.ensures.area
          (subst (λ n. Tells (read_notes c.area_of-base.result n) (read_notes c.area_of-base.result n) one.seen mid.seen shown_one shown_mid) c.requires.whole c.in-Ok-read_values.ensures.does.all) in
          record {
            known = known;
            gates = c.in-Ok.ensures.generation;
            told = tells_then registers_notes registers_notes (area ++ last) (area ++ last) _ _ _ _ _ _ c.in-Ok.ensures.does
                (tells_then area area last last _ _ _ _ _ _ reads
                (subst (λ n. Tells (begin_notes known n) (begin_notes known n) mid.seen new.seen shown_mid shown_new) (sym begun.next.0 ∙ sym generation_is) begun.does.all));
          };
      clear = λ tells. both_clear (tagging sealed_by) old.cells mid.cells new.cells
          (none_clear (tagging sealed_by) old.cells mid.cells (λ cell low. ap (λ (i : Image). i cell) (passes.told (c.begin.ensures.serves.goes.told tells)).1)) (begun.clear tells);
      unwritten = tt;
    }
