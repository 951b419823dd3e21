-- Blocks that replace others: once (`OneExchange`), and several times.
pub mod OneExchange
pub mod ManyExchanges
