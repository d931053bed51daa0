mod NoTask
mod NoneSet
