use Rattle.meaning.proofs.Orders.{lawful, persons_order}
use Rattle.meaning.proofs.networks_are_lawful.Goals as goal

pub returns : goal.returns
returns g c =
    let net = g.N.Network.meaning c.args.net.now in
    record {
      graph = lawful net (g.N.Network.sound c.args.net.now);
      order = persons_order g.N.Grade.Ordered.at_most g.met.N.Grade.Ordered.total g.met.N.Grade.Ordered.transitive net;
    }
