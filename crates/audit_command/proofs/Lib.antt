mod AuditEnds
mod AuditFaults
mod BestEnds
mod OneAudit
mod OneBest
