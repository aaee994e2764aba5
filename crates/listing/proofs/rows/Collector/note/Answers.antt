use Rattle.std.proofs.Common.{vec_items}
use Rattle.std.proofs.cmp.Tests.{ltb_from_iff}
use Rattle.listing.specs.Rows.{placed, stacked}
use Rattle.listing.proofs.Collecting.{begin-made, property-made, end-made}
use Rattle.listing.proofs.rows.Collector.note.Goals as goal

pub returns-in-Begin : goal.returns-in-Begin
returns-in-Begin c =
    begin-made
    c.enter.result
    (placed (vec_items c.args.self.now.rows))
    (placed (vec_items c.enter.new.self.rows))
    (stacked (vec_items c.args.self.now.trail))
    (stacked (vec_items c.enter.new.self.trail))
    _
    c.in-Begin.at
    c.in-Begin.name
    c.in-Begin.is
    c.enter.ensures.rows
    c.enter.ensures.trail

pub returns-in-Property : goal.returns-in-Property
returns-in-Property c =
    rw c.add_property.ensures.trail
    (property-made
    c.add_property.result
    (placed (vec_items c.args.self.now.rows))
    (placed (vec_items c.add_property.new.self.rows))
    (stacked (vec_items c.args.self.now.trail))
    _
    c.in-Property.at
    c.in-Property.name
    c.in-Property.value
    c.in-Property.is
    c.add_property.ensures.rows)

pub returns-in-End : goal.returns-in-End
returns-in-End c =
    end-made
    (placed (vec_items c.args.self.now.rows))
    (vec_items c.args.self.now.trail)
    (vec_items c.pop.new.self)
    c.pop.result
    _
    _
    c.in-End.at
    c.in-End.is
    c.pop.ensures.items
    (ltb_from_iff c.pop.ensures.variant)
    c.args.self.now.trail.ok.0
