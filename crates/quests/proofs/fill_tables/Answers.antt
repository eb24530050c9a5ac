-- `quests::fill_tables` meets its contract. Assumes nothing.
use mathlib.Core.Path.{refl}
use native.Mathlib.Omega.{arith}
use borrow.Author.Rules.{rules}
use Rattle.quests.proofs.Filling.{empty_all, part_empty, still_empty, tables_of}
use Rattle.quests.proofs.fill_tables.Goals as goal

pub fill_leads-requires : goal.fill_leads-requires
fill_leads-requires c =
    let pre = c.requires in
    let args = c.args in record { room = pre.rooms.part_room; no_leads = part_empty 0 args.leads.now (omega arith) (empty_all pre.cleared) }

pub fill_leads-requires-2 : goal.fill_leads-requires-2
fill_leads-requires-2 c =
    let pre = c.requires in
    let args = c.args in
    let none = args.leads.now in
    let first = c.fill_leads.new.leads in record { room = pre.rooms.whole_room; no_leads = part_empty 128 _ (omega arith) (still_empty 0 128 none first refl (omega arith) (search rules) (empty_all pre.cleared)) }

pub fill_leads-requires-3 : goal.fill_leads-requires-3
fill_leads-requires-3 c =
    let pre = c.requires in
    let args = c.args in
    let none = args.leads.now in
    let first = c.fill_leads.new.leads in
    let second = c.fill_leads-2.new.leads in
    let one = still_empty 0 128 none first refl (omega arith) (search rules) (empty_all pre.cleared) in record { room = pre.rooms.rest_room; no_leads = part_empty 256 _ (omega arith) (still_empty 128 256 _ second refl (omega arith) (search rules) one) }

pub returns : goal.returns
returns c =
    tables_of
    c.args.leads.now
    c.fill_leads.new.leads
    c.fill_leads-2.new.leads
    c.fill_leads-3.new.leads
    c.requires.rooms.part_room.few
    c.requires.rooms.whole_room.few
    c.requires.rooms.rest_room.few
    c.requires.cleared.long
    (search rules)
    (search rules)
    (search rules)
    c.fill_leads.ensures
    c.fill_leads-2.ensures
    c.fill_leads-3.ensures
