use Rattle.std.proofs.Common.{ap}
use Rattle.power.specs.declared.types.UserId.{UserId}
use Rattle.power.proofs.KeptTicks.{asked_said, head_aims, worked_spent, worked_told}
use Rattle.power.proofs.knowledge.Keeper.attend.Goals as goal

pub pursue-requires : goal.pursue-requires
pursue-requires g c =
    let k = c.args.self.now in
    let b = g.P.Parts.board c.args.b.now in
    let u = c.args.u in
    let r = c.in-Asked.r in
    let m = c.requires.kept in
    let a = asked_said k b u.n r m.mirrors c.in-Asked.ensures in
    record {
      mirrors = m.mirrors;
      sound = m.sound;
      part = (m.sound.asks u.n r.part.n r.level.n a.0 u.below a.1).0;
      all = c.requires.all;
      aims = head_aims k k b u.n r.part.n r.level.n a.0 m u.below a.1 c.requires.head;
    }

pub returns-in-None : goal.returns-in-None
returns-in-None g c =
    let k = c.args.self.now in
    let b = g.P.Parts.board c.args.b.now in
    let u = c.args.u in
    let r = c.in-Asked.r in
    let m = c.requires.kept in
    let a = asked_said k b u.n r m.mirrors c.in-Asked.ensures in
    let e = c.in-None.ensures in
    let t = c.tick.ensures in
    worked_spent k _ b u.n r.part.n r.level.n a.0 m u.below a.1 c.requires.head _ e.only e.sound
    _ t.turn e.pursued (ap (λ (v : UserId). v.n) e.user) (t.mirrors _ e.mirrors)

pub returns-in-Some : goal.returns-in-Some
returns-in-Some g c =
    let k = c.args.self.now in
    let b = g.P.Parts.board c.args.b.now in
    let u = c.args.u in
    let r = c.in-Asked.r in
    let m = c.requires.kept in
    let a = asked_said k b u.n r m.mirrors c.in-Asked.ensures in
    let e = c.in-Some.ensures in
    let t = c.tick-in-Some.ensures in
    worked_told k _ b u.n r.part.n r.level.n a.0 m u.below a.1 c.requires.head _ e.only e.sound
    c.in-Some.a c.pursue.new.self.turn _ t.turn e.pursued (ap (λ (v : UserId). v.n) e.user) c.tell.ensures.turn (t.mirrors _ (c.tell.ensures.mirrors _ e.mirrors))
