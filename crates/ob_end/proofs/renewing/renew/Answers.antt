use Rattle.std.proofs.Common.{◌*◌, ℕ, List, take, drop, length, replicate, refl, ap, sym, subst, ◌∙◌, arith, ◌≡◌, ◌≤◌, ◌+◌}
use Rattle.std.proofs.lemmas.List.{length-take-le}
use Rattle.ob_base.specs.declared.params.Params.{Params}
use Rattle.ob_base.specs.Layout.{checkpoint_cells}
use Rattle.ob_base.specs.Tree.{buckets, width}
use Rattle.ob_fetch.specs.Fetches.{words_since, DrawsWords}
use Rattle.ob_ring.specs.Ring.{Kept}
use Rattle.ob_end.proofs.RenewLaws.{answers_as, at_between, filled_as, made_as, own_is, rest_is, size_as, both_counted, both_drawn}
use Rattle.ob_end.specs.Renewals.{end_words}
use Rattle.ob_end.proofs.renewing.renew.Goals as goal

pub returns-clause-renews : goal.returns-clause-renews
returns-clause-renews g c =
    let ring = c.args.ring.now in
    let since = words_since (g.T.Tape.drawn c.args.tape.now) (g.T.Tape.drawn c.draw_front-2.new.tape) in
    let own_many = length-take-le c.args.p.now.writes c.draw_front.new.words.items (let room = c.draw_front.ensures.room in let most = c.requires.own_room in let same = ap (λ (q : Params). q.writes) c.requires.params in omega arith) in
    let own = c.front.ensures ∙ own_is c.args.p.now.writes _ _ _ _ _ c.draw_front.ensures.drawn c.draw_front-2.ensures.drawn own_many ∙ ap (λ (q : Params). take q.writes since) c.requires.params in
    let rest = c.front-2.ensures ∙ rest_is c.args.p.now.writes _ _ _ _ _ c.draw_front.ensures.drawn c.draw_front-2.ensures.drawn own_many ∙ ap (λ (q : Params). drop q.writes since) c.requires.params in
    let generation = ap (λ (x : ℕ × ℕ). x.0) c.next-generation.ensures.identity in
    let next = ap (λ (x : ℕ × ℕ). x.1) c.next-generation.ensures.identity in
    let e = c.apply_writes.ensures in
    let f = c.refill_indexed-filled.ensures in
    λ enough. record {
      between = c.apply_writes.new.self;
      made = made_as ring c.apply_writes.new.self c.args.writes.now own generation c.args.drawn.now
          (record { kept = e.kept; room = e.room; entries = e.entries; values = e.values; seals = e.seals; listed = e.listed c.requires.listed; rules = c.tables.ensures.rules; table = e.applied });
      filled = filled_as c.apply_writes.new.self c.refill_indexed-filled.new.self rest generation next
          (record { kept = f.kept; order = f.order; within = f.within; rules = c.tables-2.ensures.rules; anew = f.anew; table = λ t s. f.refilled t s (at_between ring c.apply_writes.new.self c.args.writes.now own generation c.args.drawn.now c.requires.stash e.values e.applied t s) });
    }

pub returns-clause-answers : goal.returns-clause-answers
returns-clause-answers g c =
    let ring = c.args.ring.now in
    let since = words_since (g.T.Tape.drawn c.args.tape.now) (g.T.Tape.drawn c.draw_front-2.new.tape) in
    let own_many = length-take-le c.args.p.now.writes c.draw_front.new.words.items (let room = c.draw_front.ensures.room in let most = c.requires.own_room in let same = ap (λ (q : Params). q.writes) c.requires.params in omega arith) in
    let own = c.front.ensures ∙ own_is c.args.p.now.writes _ _ _ _ _ c.draw_front.ensures.drawn c.draw_front-2.ensures.drawn own_many ∙ ap (λ (q : Params). take q.writes since) c.requires.params in
    let generation = ap (λ (x : ℕ × ℕ). x.0) c.next-generation.ensures.identity in
    let next = ap (λ (x : ℕ × ℕ). x.1) c.next-generation.ensures.identity in
    let e = c.apply_writes.ensures in
    let f = c.refill_indexed-filled.ensures in
    let ps = ap (λ (k : Kept). k.p) e.kept in
    let many = ap (λ (l : List ℕ). length l * width c.args.p.now) c.to_refill.ensures ∙ ap (λ (q : Params). length ring.metas.order * width q) c.requires.params in
    let cells = c.checkpoint_cells.ensures.cells ∙ ap checkpoint_cells c.requires.params in
    λ enough t stands.
    let size = size_as ring c.apply_writes.new.self c.args.writes.now own generation c.args.drawn.now ps t in
    let room = ap (λ (q : Params). q.room) ps in
    answers_as c.judge.result size room next (omega arith)
    (c.judge.ensures _ _ (f.rows _ (e.applied t stands) (at_between ring c.apply_writes.new.self c.args.writes.now own generation c.args.drawn.now c.requires.stash e.values e.applied _ (e.applied t stands))))

pub returns-clause-same : goal.returns-clause-same
returns-clause-same g c = c.draw_front-2.ensures.same ∙ c.draw_front.ensures.same

pub returns-clause-counted : goal.returns-clause-counted
returns-clause-counted g c =
    let own_many = length-take-le c.args.p.now.writes c.draw_front.new.words.items (let room = c.draw_front.ensures.room in let most = c.requires.own_room in let same = ap (λ (q : Params). q.writes) c.requires.params in omega arith) in
    let many = ap (λ (l : List ℕ). length l * width c.args.p.now) c.to_refill.ensures ∙ ap (λ (q : Params). length c.args.ring.now.metas.order * width q) c.requires.params in
    let rest_many = length-take-le (length c.to_refill.result.now * width c.args.p.now) c.draw_front-2.new.words.items (let room = c.draw_front.ensures.room in let then = c.draw_front-2.ensures.room in let most = c.requires.room in omega arith) in
    both_counted c.args.p.now.writes _ _ _ _ _ c.draw_front.ensures.drawn c.draw_front-2.ensures.drawn own_many c.args.drawn.now (length c.to_refill.result.now * width c.args.p.now) c.requires.drawn rest_many

pub returns-clause-words : goal.returns-clause-words
returns-clause-words g c = c.draw_front-2.ensures.room ∙ c.draw_front.ensures.room

pub returns-clause-worn : goal.returns-clause-worn
returns-clause-worn g c =
    let many = ap (λ (l : List ℕ). length l * width c.args.p.now) c.to_refill.ensures ∙ ap (λ (q : Params). length c.args.ring.now.metas.order * width q) c.requires.params in
    let total : c.args.p.now.writes + (length c.to_refill.result.now * width c.args.p.now) ≡ end_words c.args.ring.now = (let own = ap (λ (q : Params). q.writes) c.requires.params in omega arith) in
    let enough = c.if-first-own.false in
    λ worn. absurd (omega arith)

pub returns-clause-draws : goal.returns-clause-draws
returns-clause-draws g c =
    let own_many = length-take-le c.args.p.now.writes c.draw_front.new.words.items (let room = c.draw_front.ensures.room in let most = c.requires.own_room in let same = ap (λ (q : Params). q.writes) c.requires.params in omega arith) in
    let many = ap (λ (l : List ℕ). length l * width c.args.p.now) c.to_refill.ensures ∙ ap (λ (q : Params). length c.args.ring.now.metas.order * width q) c.requires.params in
    let rest_many = length-take-le (length c.to_refill.result.now * width c.args.p.now) c.draw_front-2.new.words.items (let room = c.draw_front.ensures.room in let then = c.draw_front-2.ensures.room in let most = c.requires.room in omega arith) in
    let total : c.args.p.now.writes + (length c.to_refill.result.now * width c.args.p.now) ≡ end_words c.args.ring.now = (let own = ap (λ (q : Params). q.writes) c.requires.params in omega arith) in
    λ enough. subst (λ (n : ℕ). DrawsWords n (g.T.Tape.drawn c.args.tape.now) (g.T.Tape.drawn c.draw_front-2.new.tape)) total (both_drawn c.args.p.now.writes _ _ _ _ _ c.draw_front.ensures.drawn c.draw_front-2.ensures.drawn own_many (length c.to_refill.result.now * width c.args.p.now) rest_many)

-- ---- too few words are left

pub returns-then-first-own-clause-counted : goal.returns-then-first-own-clause-counted
returns-then-first-own-clause-counted g c = c.requires.drawn

pub returns-then-first-own-clause-worn : goal.returns-then-first-own-clause-worn
returns-then-first-own-clause-worn g c = λ worn. (refl, refl, refl)

pub returns-then-first-own-clause-draws : goal.returns-then-first-own-clause-draws
returns-then-first-own-clause-draws g c =
    let many = ap (λ (l : List ℕ). length l * width c.args.p.now) c.to_refill.ensures ∙ ap (λ (q : Params). length c.args.ring.now.metas.order * width q) c.requires.params in
    let total : c.args.p.now.writes + (length c.to_refill.result.now * width c.args.p.now) ≡ end_words c.args.ring.now = (let own = ap (λ (q : Params). q.writes) c.requires.params in omega arith) in
    let over = c.if-first-own.true in
    λ enough. absurd (omega arith)

pub returns-then-first-own-clause-renews : goal.returns-then-first-own-clause-renews
returns-then-first-own-clause-renews g c =
    let many = ap (λ (l : List ℕ). length l * width c.args.p.now) c.to_refill.ensures ∙ ap (λ (q : Params). length c.args.ring.now.metas.order * width q) c.requires.params in
    let total : c.args.p.now.writes + (length c.to_refill.result.now * width c.args.p.now) ≡ end_words c.args.ring.now = (let own = ap (λ (q : Params). q.writes) c.requires.params in omega arith) in
    let over = c.if-first-own.true in
    λ enough. absurd (omega arith)

pub returns-then-first-own-clause-answers : goal.returns-then-first-own-clause-answers
returns-then-first-own-clause-answers g c =
    let many = ap (λ (l : List ℕ). length l * width c.args.p.now) c.to_refill.ensures ∙ ap (λ (q : Params). length c.args.ring.now.metas.order * width q) c.requires.params in
    let total : c.args.p.now.writes + (length c.to_refill.result.now * width c.args.p.now) ≡ end_words c.args.ring.now = (let own = ap (λ (q : Params). q.writes) c.requires.params in omega arith) in
    let over = c.if-first-own.true in
    λ enough t stands. absurd (omega arith)

-- ---- the words may be drawn and taken

pub draw_front-requires-clause-few : goal.draw_front-requires-clause-few
draw_front-requires-clause-few g c = subst (λ (q : Params). q.writes ≤ length c.args.words.now.items) (sym c.requires.params) c.requires.own_room

pub draw_front-requires-clause-room : goal.draw_front-requires-clause-room
draw_front-requires-clause-room g c = (let enough = c.if-first-own.false in let counted = c.requires.drawn in let small = c.requires.small in omega arith)

pub apply_writes-requires-clause-keys : goal.apply_writes-requires-clause-keys
apply_writes-requires-clause-keys g c = c.requires.keys

pub apply_writes-requires-clause-words : goal.apply_writes-requires-clause-words
apply_writes-requires-clause-words g c =
    let same = ap (λ (q : Params). q.writes) c.requires.params in
    let own_many = length-take-le c.args.p.now.writes c.draw_front.new.words.items (let room = c.draw_front.ensures.room in let most = c.requires.own_room in omega arith) in
    let long = ap (λ (l : List ℕ). length l) c.front.ensures ∙ own_many in
    let few = c.requires.few in
    omega arith

pub refill_indexed-filled-requires-clause-listed : goal.refill_indexed-filled-requires-clause-listed
refill_indexed-filled-requires-clause-listed g c = c.apply_writes.ensures.listed c.requires.listed

pub refill_indexed-filled-requires-clause-index : goal.refill_indexed-filled-requires-clause-index
refill_indexed-filled-requires-clause-index g c = c.requires.index ∙ ap (λ (k : Kept). replicate (buckets k.p) 0) (sym c.apply_writes.ensures.kept)

pub returns-clause-index : goal.returns-clause-index
returns-clause-index g c = c.refill_indexed-filled.ensures.index
