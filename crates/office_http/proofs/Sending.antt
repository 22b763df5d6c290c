-- Buffers may go to another thread.
use Rattle.std.proofs.Crossing.{crosses}
use Rattle.std.proofs.option.Option.TheSendSync.{the_send as option_sent}
use denote.Param.Send.{IsSend, sendable}
use Rattle.http_asks.below.matchit.proofs.route.Route.TheSendSync.{the_send as route_sent}
use Rattle.http_asks.below.matchit.proofs.tree.Node.TheLaws.TheKnot.{crosses as node_crosses}
use Rattle.http_asks.below.slab.proofs.Entry.TheSendSync.{the_send as entry_sent}
use Rattle.http_asks.below.slab.proofs.Slab.TheSendSync.{the_send as slab_sent}
use Rattle.http_wire.specs.contracts.outbox.Outbox as outbox
use Rattle.http_sessions.below.httparse.proofs.spans.HeaderSpan.TheSendSync.{the_send as header_sent}
use Rattle.http_sessions.specs.contracts.inbox.Inbox as inbox
use Rattle.http_sessions.specs.contracts.conversation.Buffers as buffers

outbox_sent : IsSend outbox.the_row
outbox_sent = search (crosses, sendable) depth 20

inbox_sent : IsSend inbox.the_row
inbox_sent = search (crosses, sendable) depth 20

pub buffers_sent : IsSend buffers.the_row
buffers_sent = search (sendable, crosses, node_crosses, header_sent, outbox_sent, inbox_sent, route_sent, slab_sent, entry_sent, option_sent) depth 40 fits 10000
