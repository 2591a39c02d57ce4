use Rattle.ob_audit.proofs.text.verdict_text.Goals as goal

pub returns-in-Fits-clause-all : goal.returns-in-Fits-clause-all
returns-in-Fits-clause-all g c = rw c.in-Fits.is c.put_all.ensures.all

pub returns-in-Fits-clause-front : goal.returns-in-Fits-clause-front
returns-in-Fits-clause-front g c = rw c.in-Fits.is c.put_all.ensures.front

pub returns-in-Breaks-clause-all : goal.returns-in-Breaks-clause-all
returns-in-Breaks-clause-all g c = rw c.in-Breaks.is c.put_breaks.ensures.all

pub returns-in-Breaks-clause-front : goal.returns-in-Breaks-clause-front
returns-in-Breaks-clause-front g c = rw c.in-Breaks.is c.put_breaks.ensures.front
