use Rattle.std.proofs.Common.{arith, rules}
use Rattle.ob_audit.proofs.Sources.{audited_end, piece_told, no_answer}
use Rattle.ob_audit.proofs.reading.read_piece.Goals as goal

pub returns-in-Ok-finish-clause-read : goal.returns-in-Ok-finish-clause-read
returns-in-Ok-finish-clause-read g c = λ bytes h.
    audited_end c.args.limit bytes (g.I.Source.left c.args.source.now) c.in-Ok-finish.audit (c.in-Ok.ensures.end c.if-n-eq0.true (search rules)) (omega (arith, h.seen, c.requires.seen))
    (c.in-Ok-finish.ensures c.args.limit bytes h (omega (arith, h.seen, c.requires.seen)))

pub returns-in-Ok-take_piece-clause-read : goal.returns-in-Ok-take_piece-clause-read
returns-in-Ok-take_piece-clause-read g c = λ bytes h.
    piece_told c.in-Ok-take_piece.answer c.args.limit bytes _ (g.I.Source.left c.args.source.now) (g.I.Source.left c.read.new.self) _ c.in-Ok.ensures.bytes (c.in-Ok-take_piece.ensures.read bytes h)

pub returns-in-Err-clause-within : goal.returns-in-Err-clause-within
returns-in-Err-clause-within g c = tt

pub returns-in-Err-clause-few : goal.returns-in-Err-clause-few
returns-in-Err-clause-few g c = tt

pub returns-in-Err-clause-seen : goal.returns-in-Err-clause-seen
returns-in-Err-clause-seen g c = tt

pub returns-in-Err-clause-more : goal.returns-in-Err-clause-more
returns-in-Err-clause-more g c = tt

pub returns-in-Err-clause-read : goal.returns-in-Err-clause-read
returns-in-Err-clause-read g c = λ bytes h. tt

pub returns-in-Err-finish-clause-within : goal.returns-in-Err-finish-clause-within
returns-in-Err-finish-clause-within g c = tt

pub returns-in-Err-finish-clause-few : goal.returns-in-Err-finish-clause-few
returns-in-Err-finish-clause-few g c = tt

pub returns-in-Err-finish-clause-seen : goal.returns-in-Err-finish-clause-seen
returns-in-Err-finish-clause-seen g c = tt

pub returns-in-Err-finish-clause-more : goal.returns-in-Err-finish-clause-more
returns-in-Err-finish-clause-more g c = tt

pub returns-in-Err-finish-clause-read : goal.returns-in-Err-finish-clause-read
returns-in-Err-finish-clause-read g c = λ bytes h. tt

pub returns-in-Err-take_piece-clause-within : goal.returns-in-Err-take_piece-clause-within
returns-in-Err-take_piece-clause-within g c = tt

pub returns-in-Err-take_piece-clause-few : goal.returns-in-Err-take_piece-clause-few
returns-in-Err-take_piece-clause-few g c = tt

pub returns-in-Err-take_piece-clause-seen : goal.returns-in-Err-take_piece-clause-seen
returns-in-Err-take_piece-clause-seen g c = tt

pub returns-in-Err-take_piece-clause-more : goal.returns-in-Err-take_piece-clause-more
returns-in-Err-take_piece-clause-more g c = tt

pub returns-in-Err-take_piece-clause-read : goal.returns-in-Err-take_piece-clause-read
returns-in-Err-take_piece-clause-read g c = λ bytes h. tt

pub returns-in-Ok-finish-clause-front : goal.returns-in-Ok-finish-clause-front
returns-in-Ok-finish-clause-front g c = (_, c.in-Ok.ensures.bytes)

pub returns-in-Ok-take_piece-clause-front : goal.returns-in-Ok-take_piece-clause-front
returns-in-Ok-take_piece-clause-front g c = (_, c.in-Ok.ensures.bytes)

pub returns-in-Err-finish-clause-front : goal.returns-in-Err-finish-clause-front
returns-in-Err-finish-clause-front g c = (_, c.in-Ok.ensures.bytes)

pub returns-in-Err-take_piece-clause-front : goal.returns-in-Err-take_piece-clause-front
returns-in-Err-take_piece-clause-front g c = (_, c.in-Ok.ensures.bytes)

pub returns-in-Ok-finish-clause-within : goal.returns-in-Ok-finish-clause-within
returns-in-Ok-finish-clause-within g c = λ none. no_answer c.in-Ok-finish.audit none

pub returns-in-Ok-finish-clause-few : goal.returns-in-Ok-finish-clause-few
returns-in-Ok-finish-clause-few g c = λ none. no_answer c.in-Ok-finish.audit none

pub returns-in-Ok-finish-clause-seen : goal.returns-in-Ok-finish-clause-seen
returns-in-Ok-finish-clause-seen g c = λ none. no_answer c.in-Ok-finish.audit none

pub returns-in-Ok-finish-clause-more : goal.returns-in-Ok-finish-clause-more
returns-in-Ok-finish-clause-more g c = λ none. no_answer c.in-Ok-finish.audit none

pub returns-in-Ok-finish-clause-later : goal.returns-in-Ok-finish-clause-later
returns-in-Ok-finish-clause-later g c = c.in-Ok.ensures.cause.later

pub returns-in-Ok-take_piece-clause-later : goal.returns-in-Ok-take_piece-clause-later
returns-in-Ok-take_piece-clause-later g c = c.in-Ok.ensures.cause.later

pub returns-in-Err-finish-clause-later : goal.returns-in-Err-finish-clause-later
returns-in-Err-finish-clause-later g c = c.in-Ok.ensures.cause.later

pub returns-in-Err-take_piece-clause-later : goal.returns-in-Err-take_piece-clause-later
returns-in-Err-take_piece-clause-later g c = c.in-Ok.ensures.cause.later

pub returns-in-Err-clause-later : goal.returns-in-Err-clause-later
returns-in-Err-clause-later g c = c.in-Err.ensures.cause.later

pub returns-in-Err-clause-cause : goal.returns-in-Err-clause-cause
returns-in-Err-clause-cause g c = c.in-Err.ensures.cause.failed
