mod EarlyBytes
mod EarlyGuard
mod EarlyRun
