-- What's turned away changes nothing; what's taken is within its bounds.
use Rattle.std.proofs.Common.{◌∙◌, arith}
use Rattle.sim.specs.Boards.{board_of}
use Rattle.sim.proofs.Called.{away, wants, gives}
use Rattle.sim.proofs.world.SimWorld.said.Goals as goal

pub returns-then-no-ne0-clause-does : goal.returns-then-no-ne0-clause-does
returns-then-no-ne0-clause-does c = away c.args.c (board_of c.args.self.now) (λ e. c.if-no-ne0.true (c.requires ∙ e))

pub invariant_of-request : goal.invariant_of-request
invariant_of-request c =
    let w = c.in-Want in
    let r = (wants c.args.c w.u w.x w.l c.args.no (board_of c.args.self.now) w.is c.requires c.if-no-ne0.false).0 in
    record { below = omega (arith, r.1) }

pub invariant_of-request-in-Want : goal.invariant_of-request-in-Want
invariant_of-request-in-Want c =
    let w = c.in-Want in
    let r = (wants c.args.c w.u w.x w.l c.args.no (board_of c.args.self.now) w.is c.requires c.if-no-ne0.false).0 in
    record { on = r.2; top = r.3 }

pub set_wish-requires : goal.set_wish-requires
set_wish-requires c =
    let w = c.in-Want in
    record { user = (wants c.args.c w.u w.x w.l c.args.no (board_of c.args.self.now) w.is c.requires c.if-no-ne0.false).0.0 }

pub set_wish-requires-in-Give : goal.set_wish-requires-in-Give
set_wish-requires-in-Give c =
    let g = c.in-Give in
    record { user = (gives c.args.c g.u c.args.no (board_of c.args.self.now) g.is c.requires c.if-no-ne0.false).0 }

pub returns-in-Want : goal.returns-in-Want
returns-in-Want c =
    let w = c.in-Want in
    let t = (wants c.args.c w.u w.x w.l c.args.no (board_of c.args.self.now) w.is c.requires c.if-no-ne0.false).1 in
    record { does = c.set_wish.ensures.does ∙ t; paces = c.set_wish.ensures.paces }

pub returns-in-Give : goal.returns-in-Give
returns-in-Give c =
    let g = c.in-Give in
    let t = (gives c.args.c g.u c.args.no (board_of c.args.self.now) g.is c.requires c.if-no-ne0.false).1 in
    record { does = c.set_wish-in-Give.ensures.does ∙ t; paces = c.set_wish-in-Give.ensures.paces }
