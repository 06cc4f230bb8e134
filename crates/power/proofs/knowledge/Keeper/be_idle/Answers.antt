use Rattle.std.proofs.Common.{None, refl, rules}
use Rattle.power.proofs.Pursuing.{mirrors_only}
use Rattle.power.proofs.KeptTicks.{worked_settled, worked_idle, worked_seen}
use Rattle.power.proofs.knowledge.Keeper.be_idle.Goals as goal
use Rattle.power.proofs.knowledge.Keeper.be_idle.Goals.{then-self-eq-COMES_DOWN_AFTER, else-self-eq-COMES_DOWN_AFTER}

pub returns : goal.returns
returns g c =
    let k = c.args.self.now in
    let b = g.P.Parts.board c.args.b.now in
    let m = c.requires.kept in
    elim c.if-self-eq-COMES_DOWN_AFTER.branch [
      | then-self-eq-COMES_DOWN_AFTER w ↦
          let r = w.settle.ensures in
          let b' = g.P.Parts.board w.settle.new.self.board.now in
          worked_seen g.P.Parts.board _ w.settle.new.self.board.now None c.quiet_tick.new.self (search rules) (
          worked_settled k c.quiet_tick.new.self b m c.requires.nobody (cc) _ w.if-self-eq-COMES_DOWN_AFTER.true r.only w.settle.new.self.sound r.low
          (c.quiet_tick.ensures.mirrors b' (rw w.self-is (mirrors_only k _ b b' r.only m.mirrors refl refl refl w.settle.new.self.knows)))
          )
      | else-self-eq-COMES_DOWN_AFTER w ↦
          worked_seen g.P.Parts.board _ c.args.b.now None c.quiet_tick.new.self w.b-is
          (worked_idle k c.quiet_tick.new.self b m c.requires.nobody (cc) w.if-self-eq-COMES_DOWN_AFTER.false (c.quiet_tick.ensures.mirrors b (rw w.self-is m.mirrors)))
    ]
