use Rattle.sand_text.proofs.Common.{arith, ◌≡◌, both_ways, Cylinder, Number, Letter, usual}
use Rattle.sand_text.proofs.Surveying.{at_token, note_step, spare_step, strange_letter, strange_token}
use Rattle.sand_text.proofs.survey.Survey.take.Goals as goal

pub returns-in-Number-clause-taken : goal.returns-in-Number-clause-taken
returns-in-Number-clause-taken c = λ ws rest h.
    let here =
    at_token ws rest c.args.self.now c.args.token (Number c.in-Number.start c.in-Number.value) c.in-Number.is h in
    note_step ws rest c.args.self.now c.note.new.self c.in-Number.start c.in-Number.value here c.note.ensures

pub returns-else-not-spare-clause-taken : goal.returns-else-not-spare-clause-taken
returns-else-not-spare-clause-taken c = λ ws rest h.
    let here = at_token ws rest c.args.self.now c.args.token (Letter c.in-Letter.at) c.in-Letter.is h in
    let spared = c.spare.ensures.spared.0 c.if-not-spare.false in
    let edge : c.spare.new.self ≡ record c.args.self.now { edge = Cylinder } =
    rw c.if-not-spare.false at c.spare.ensures.edge in
    spare_step ws rest c.args.self.now c.spare.new.self c.in-Letter.at here spared.0 spared.1 edge

pub returns-then-not-spare-clause-strange : goal.returns-then-not-spare-clause-strange
returns-then-not-spare-clause-strange c = grind (arith, usual, at_token, strange_letter, both_ways)

pub returns-in-Strange-clause-strange : goal.returns-in-Strange-clause-strange
returns-in-Strange-clause-strange c = grind (arith, usual, at_token, strange_token)
